-- What a new array has of the items or answers that it is made of.
use Rattle.std.specs.Prelude.{◌≡◌, ℕ, List, [], ◌∷◌, Option, Some, Result, IfOk, IsTrue}
use Rattle.std.specs.Fn.{Mut, Called}
use Rattle.std.specs.Iterator.{Drains}
use Rattle.nd_shape_and_slice.specs.ShapesAndIndexOrders.{in_box}
use Rattle.nd_shape_and_slice.specs.declared.dimension.Dimension as dimension
use Rattle.nd_shape_and_slice.specs.declared.dimension.AxisCount as axis_count
use Rattle.nd_shape_and_slice.specs.declared.dimension.StrideList as stride_list
use Rattle.nd_shape_and_slice.specs.declared.shape_builder.Order.TheVariants.{RowMajor}
use Rattle.nd_elements.specs.declared.storage.Data as data_trait
use Rattle.nd_elements.specs.declared.storage.OwnedRepr.{OwnedRepr}
use Rattle.nd_array_core.specs.declared.base.array.ArrayBase.{ArrayBase}
use Rattle.nd_elements.specs.CallsInFreeOrder.{AnswersByIndex, HasAnswersByIndex}
use Rattle.nd_array_core.specs.ElementsByCoordinates.{HasCells, HasCellsOf1, HasCellsOf3, IsCell, IsCellOf1, IsCellOf3}
use Rattle.nd_array_core.specs.ArrayMeaning.{element_at, storage_of}
use Rattle.nd_elements.specs.ElementsByRank.{BuiltShape}
use Rattle.nd_array_core.specs.base.NewArrays.{OwnsInOrder, ShowsValues}
use Rattle.nd_elements.specs.BorrowedAndOwnedStorages.{stored_list}

module _ {F X A : Type 0} (g : Mut F (X × Unit {0}) A) (lengths_of : X → List ℕ) where
  -- Says that the closure answers for each index of the shape something that has the property `IsAnswer` for the index,
  -- and stays as it is.
  abbrev pub AnswersEach : List ℕ → (List ℕ → A → Type 0) → F → Type 0
  AnswersEach shape IsAnswer f = (x : X) (y : A) (f' : F) → IsTrue (in_box shape (lengths_of x)) → Called g f (x, tt) y f' → (f' ≡ f) × IsAnswer (lengths_of x) y

-- Says that the iterator `it` gives an item when it is asked for the first one.
abbrev pub GivesItem : {I A : Type 0} → (I → Option A → I → Type 0) → I → Type 0
GivesItem {I} {A} gives it = (item : A) × (rest : I) × gives it (Some item) rest

-- Says that the source becomes an iterator that gives an item when it is asked for the first one.
abbrev pub SourceGivesItem : {X I A : Type 0} → (X → I → Type 0) → (I → Option A → I → Type 0) → X → Type 0
SourceGivesItem {X} {I} becomes gives source = (it : I) × becomes source it × GivesItem gives it

module _ {D T A R : Type 0} {s : data_trait.Ghosts (OwnedRepr A) A} {d : dimension.Ghosts D R} {n : axis_count.Ghosts D} {r : stride_list.Ghosts R} {t : stride_list.Ghosts T} where
  -- Says that the array owns a matrix of `count` rows and `count` columns, in row-major order.
  abbrev pub OwnsSquare : ℕ → ArrayBase (OwnedRepr A) D T A R s d n r t → Type 0
  OwnsSquare count a = OwnsInOrder (count ∷ count ∷ [], RowMajor) a

  -- Says that the array stores all items of an iterator that the source becomes, in their order.
  abbrev pub StoresItemsOf : {X I : Type 0} → (X → I → Type 0) → (I → Option A → I → Type 0) → X → ArrayBase (OwnedRepr A) D T A R s d n r t → Type 0
  StoresItemsOf {X} {I} becomes gives source a = (it : I) × becomes source it × Drains gives it (stored_list (storage_of a))

  -- The answers of a closure that is handed an index.
  module _ {F X : Type 0} (g : Mut F (X × Unit {0}) A) (lengths_of : X → List ℕ) where
    -- Says that the element at each index of the shape is what the closure answered for the index, with one call for
    -- each index.
    abbrev pub ShowsAnswers : List ℕ → F → ArrayBase (OwnedRepr A) D T A R s d n r t → Type 0
    ShowsAnswers shape f a = HasAnswersByIndex g lengths_of shape f (element_at a)

    -- Says that, if the closure answers what a function `h` gives of each index and stays as it is, then the element at
    -- each index is that value.
    abbrev pub OwnsAnswersAlike : BuiltShape → F → ArrayBase (OwnedRepr A) D T A R s d n r t → Type 0
    OwnsAnswersAlike built f a = (h : List ℕ → A) → AnswersByIndex g lengths_of built.0 h f → ShowsValues built h a

    -- Says that, if the closure answers what a function `h` gives of each index and stays as it is, then the array,
    -- where the result is one, has that value as the element at each index.
    abbrev pub ShowsAnswersAlike : {E : Type 0} → BuiltShape → F → Result (ArrayBase (OwnedRepr A) D T A R s d n r t) E → Type 0
    ShowsAnswersAlike built f result = (h : List ℕ → A) → AnswersByIndex g lengths_of built.0 h f → IfOk result (ShowsValues built h)

    -- Says that, if the shape has rows and columns and the closure answers what a function `cell` gives of each row and
    -- column and stays as it is, then the array, where the result is one, has these values as its cells.
    abbrev pub ShowsCells : {E : Type 0} → List ℕ → F → Result (ArrayBase (OwnedRepr A) D T A R s d n r t) E → Type 0
    ShowsCells shape f result = (rows columns : ℕ) (cell : ℕ → ℕ → A) → shape ≡ rows ∷ columns ∷ [] → AnswersEach g lengths_of shape (IsCell cell) f → IfOk result (λ a. HasCells a rows columns cell)

    -- Says that, if the shape has one axis and the closure answers what a function `cell` gives of each coordinate and
    -- stays as it is, then the array, where the result is one, has these values as its elements.
    abbrev pub ShowsCellsOf1 : {E : Type 0} → List ℕ → F → Result (ArrayBase (OwnedRepr A) D T A R s d n r t) E → Type 0
    ShowsCellsOf1 shape f result = (count : ℕ) (cell : ℕ → A) → shape ≡ count ∷ [] → AnswersEach g lengths_of shape (IsCellOf1 cell) f → IfOk result (λ a. HasCellsOf1 a count cell)

    -- Says that, if the shape has three axes and the closure answers what a function `cell` gives of each three
    -- coordinates and stays as it is, then the array, where the result is one, has these values as its elements.
    abbrev pub ShowsCellsOf3 : {E : Type 0} → List ℕ → F → Result (ArrayBase (OwnedRepr A) D T A R s d n r t) E → Type 0
    ShowsCellsOf3 shape f result = (planes rows columns : ℕ) (cell : ℕ → ℕ → ℕ → A) → shape ≡ planes ∷ rows ∷ columns ∷ [] → AnswersEach g lengths_of shape (IsCellOf3 cell) f → IfOk result (λ a. HasCellsOf3 a planes rows columns cell)
