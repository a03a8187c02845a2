-- A view or an owned array: which of them it is, what it shows, and which of them a reshape returns.
use Rattle.std.specs.Prelude.{ℕ, ◌≡◌, ◌⊎◌, Bool, true, false, List, ℤ, Result, IsOkAnd, IsTrue}
use Rattle.nd_shape_and_slice.specs.declared.dimension.Dimension as dimension
use Rattle.nd_shape_and_slice.specs.declared.dimension.AxisCount as axis_count
use Rattle.nd_shape_and_slice.specs.declared.dimension.StrideList as stride_list
use Rattle.nd_shape_and_slice.specs.declared.shape_builder.Order.{Order}
use Rattle.nd_shape_and_slice.specs.declared.shape_builder.Order.TheVariants.{RowMajor}
use Rattle.nd_shape_and_slice.specs.declared.errors.ErrorKind.TheVariants.{IncompatibleShape}
use Rattle.nd_array_core.specs.declared.base.array.ArrayBase.{ArrayBase}
use Rattle.nd_array_core.specs.declared.base.array_error.ArrayError.{ArrayError}
use Rattle.nd_array_core.specs.declared.base.array_error.ArrayError.TheVariants.{Shape, NoMemory}
use Rattle.nd_elements.specs.declared.storage.Data as data_trait
use Rattle.nd_elements.specs.declared.storage.OwnedRepr.{OwnedRepr}
use Rattle.nd_array_core.specs.declared.reshape.either_array.EitherArray.{EitherArray}
use Rattle.nd_array_core.specs.declared.reshape.either_array.EitherArray.TheVariants.{View, Owned}
use Rattle.nd_elements.specs.ShapeAndElements.{Meaning}
use Rattle.nd_array_core.specs.ArrayMeaning.{meaning_of, shape_of, element_at, layout_strides, storage_of}
use Rattle.nd_array_core.specs.PartsOfArrays.{ShowsWhole}
use Rattle.nd_elements.specs.EqualClones.{ClonesOfAllAreEqual}
use Rattle.nd_array_core.specs.base.NewArrays.{OwnsInOrder}
use Rattle.nd_array_core.specs.reshape.ReshapeByRank.{IsShapeOf, LiesInOrder}
use Rattle.nd_array_core.specs.reshape.ElementsAsSlice.{IsStandardArray}
use Rattle.nd_array_core.specs.reshape.ServingStrides.{SomeServe, StridesServe, ShowsServed, KeepsRanks, regrouped_meaning}

module _ {A V S D R : Type 0} {v : data_trait.Ghosts V A} {s : data_trait.Ghosts S A} {d : dimension.Ghosts D R} {n : axis_count.Ghosts D} {r : stride_list.Ghosts R} where
  -- Returns whether it is a view.
  abbrev pub is_view_in : EitherArray A V S D R v s d n r → Bool
  is_view_in (View a) = true
  is_view_in (Owned a) = false

  -- Returns the shape and the elements that the view or the owned array shows.
  abbrev pub meaning_in : EitherArray A V S D R v s d n r → Meaning A
  meaning_in (View a) = meaning_of a
  meaning_in (Owned a) = meaning_of a

  -- Says that the result is `Ok`, with a view.
  abbrev pub IsOkView : {E : Type 0} → Result (EitherArray A V S D R v s d n r) E → Type 0
  IsOkView result = IsOkAnd result (λ either. IsTrue (is_view_in either))

module _
    {A V S D R : Type 0} {v : data_trait.Ghosts V A} {s : data_trait.Ghosts S A} {d : dimension.Ghosts D R} {n : axis_count.Ghosts D} {r : stride_list.Ghosts R}
    {Z E U X : Type 0} {z : data_trait.Ghosts Z A} {e : dimension.Ghosts E X} {k : axis_count.Ghosts E} {x : stride_list.Ghosts X} {u : stride_list.Ghosts U} where
  -- Says that `b` shows all that the view or the owned array shows, in the same places.
  abbrev pub ShowsEither : EitherArray A V S D R v s d n r → ArrayBase Z E U A X z e k x u → Type 0
  ShowsEither (View a) b = ShowsWhole a b
  ShowsEither (Owned a) b = ShowsWhole a b

-- The errors with which a reshape from `ns` to `ms` in `order` is refused: `IncompatibleShape` where `ms` isn't a shape
-- of as many elements, and `NoMemory` where it is one but no strides serve, so that the elements must be copied.
pub data IsReshapeRefused (order : Order) (ns : List ℕ) (ss : List ℤ) (ms : List ℕ) : ArrayError → Type 0 where
  NotAsMany : ¬ (IsShapeOf ns ms) → IsReshapeRefused order ns ss ms (Shape IncompatibleShape)
  NotCopied : IsShapeOf ns ms → ¬ (SomeServe order ns ss ms) → IsReshapeRefused order ns ss ms NoMemory

module _ {S D T A R : Type 0} {s : data_trait.Ghosts S A} {d : dimension.Ghosts D R} {n : axis_count.Ghosts D} {r : stride_list.Ghosts R} {t : stride_list.Ghosts T} where
  -- Says that a reshape of `a` to the shape `ms` in `order` is refused with the given error.
  abbrev pub RefusesReshape : ArrayBase S D T A R s d n r t → Order → List ℕ → ArrayError → Type 0
  RefusesReshape a order ms = IsReshapeRefused order (shape_of a) (layout_strides a) ms

  -- Says that, where no strides serve the shape `ms`, so that the elements are copied, every clone of an element of `a`
  -- equals the element.
  abbrev pub CopiesAreEqual : (A → A → Type 0) → ArrayBase S D T A R s d n r t → Order → List ℕ → Type 0
  CopiesAreEqual is_clone a order ms = ¬ (StridesServe a order ms) → ClonesOfAllAreEqual is_clone (element_at a)

  -- Says that strides serve every shape of as many elements in each order in which the elements of `a` lie.
  abbrev pub IsServedInItsOrder : ArrayBase S D T A R s d n r t → Type 0
  IsServedInItsOrder a = (order : Order) (ms : List ℕ) → LiesInOrder order a → IsShapeOf (shape_of a) ms → StridesServe a order ms

module _
    {S D A T R : Type 0} {s : data_trait.Ghosts S A} {d : dimension.Ghosts D R} {n : axis_count.Ghosts D} {r : stride_list.Ghosts R} {t : stride_list.Ghosts T}
    {Z E X : Type 0} {z : data_trait.Ghosts Z A} {o : data_trait.Ghosts (OwnedRepr A) A} {e : dimension.Ghosts E X} {k : axis_count.Ghosts E} {x : stride_list.Ghosts X} where
  -- Says that the elements of `a` are shown under the shape `ms`, each with its rank in `order`: where strides serve by
  -- a view, with each element in its place, and otherwise by copies, laid out in this order from place 0 on.
  abbrev pub ViewsOrCopies : ArrayBase S D T A R s d n r t → Order → List ℕ → EitherArray A Z (OwnedRepr A) E X z o e k x → Type 0
  ViewsOrCopies a order ms (View b) = StridesServe a order ms × ShowsServed a order ms b
  ViewsOrCopies a order ms (Owned b) = (¬ (StridesServe a order ms)) × OwnsInOrder (ms, order) b × KeepsRanks a order ms b

  -- Says that the view or the owned array shows the elements of `a` under the shape `ms`, each with its rank in
  -- `order`.
  abbrev pub ShowsRegrouped : ArrayBase S D T A R s d n r t → Order → List ℕ → EitherArray A Z (OwnedRepr A) E X z o e k x → Type 0
  ShowsRegrouped a order ms either = meaning_in either ≡ regrouped_meaning order ms (meaning_of a)

  -- Says that, where strides serve the shape `ms`, the result is `Ok` with a view.
  abbrev pub IsViewIfServed : {B : Type 0} → ArrayBase S D T A R s d n r t → Order → List ℕ → Result (EitherArray A Z (OwnedRepr A) E X z o e k x) B → Type 0
  IsViewIfServed a order ms result = StridesServe a order ms → IsOkView result

  -- Says that, where `ms` is a shape of as many elements as `a` has and strides serve it, the result is `Ok` with a
  -- view.
  abbrev pub IsViewIfShapeServed : {B : Type 0} → ArrayBase S D T A R s d n r t → Order → List ℕ → Result (EitherArray A Z (OwnedRepr A) E X z o e k x) B → Type 0
  IsViewIfShapeServed a order ms result = IsShapeOf (shape_of a) ms → IsViewIfServed a order ms result

  -- Says that the elements of `a` are shown under its own shape in standard layout: where they lie so by a view, and
  -- otherwise by copies from place 0 on.
  abbrev pub ViewsOrLaysOut : ArrayBase S D T A R s d n r t → EitherArray A Z (OwnedRepr A) E X z o e k x → Type 0
  ViewsOrLaysOut a (View b) = IsStandardArray a × ShowsWhole a b
  ViewsOrLaysOut a (Owned b) = (¬ (IsStandardArray a)) × OwnsInOrder (shape_of a, RowMajor) b × ((i : List ℕ) → element_at b i ≡ element_at a i)

module _
    {D T A R : Type 0} {s : data_trait.Ghosts (OwnedRepr A) A} {d : dimension.Ghosts D R} {n : axis_count.Ghosts D} {r : stride_list.Ghosts R} {t : stride_list.Ghosts T}
    {E U X : Type 0} {e : dimension.Ghosts E X} {k : axis_count.Ghosts E} {x : stride_list.Ghosts X} {u : stride_list.Ghosts U} where
  -- Says that `b` has the storage of `a`, and shows each element in its place under the shape `ms`, with its rank in
  -- `order`.
  abbrev pub KeepsStorage : ArrayBase (OwnedRepr A) D T A R s d n r t → Order → List ℕ → ArrayBase (OwnedRepr A) E U A X s e k x u → Type 0
  KeepsStorage a order ms b = ShowsServed a order ms b × (storage_of b ≡ storage_of a)

  -- Says that, where strides serve the shape `ms`, the result is `Ok` with an array that keeps the storage of `a`.
  abbrev pub KeepsStorageIfServed : {B : Type 0} → ArrayBase (OwnedRepr A) D T A R s d n r t → Order → List ℕ → Result (ArrayBase (OwnedRepr A) E U A X s e k x u) B → Type 0
  KeepsStorageIfServed a order ms result = StridesServe a order ms → IsOkAnd result (KeepsStorage a order ms)

  -- Says that, where `ms` is a shape of as many elements as `a` has and strides serve it, the result is `Ok` with an
  -- array that keeps the storage of `a`.
  abbrev pub KeepsStorageIfShapeServed : {B : Type 0} → ArrayBase (OwnedRepr A) D T A R s d n r t → Order → List ℕ → Result (ArrayBase (OwnedRepr A) E U A X s e k x u) B → Type 0
  KeepsStorageIfShapeServed a order ms result = IsShapeOf (shape_of a) ms → KeepsStorageIfServed a order ms result

  -- Says that `b` shows the elements of `a` under the shape `ms`, each with its rank in `order`: where strides serve in
  -- the storage of `a`, with each element in its place, and otherwise as copies, laid out in this order from place 0
  -- on.
  abbrev pub KeptOrCopied : ArrayBase (OwnedRepr A) D T A R s d n r t → Order → List ℕ → ArrayBase (OwnedRepr A) E U A X s e k x u → Type 0
  KeptOrCopied a order ms b =
      (StridesServe a order ms × ShowsServed a order ms b × (storage_of b ≡ storage_of a))
      ⊎ ((¬ (StridesServe a order ms)) × OwnsInOrder (ms, order) b × KeepsRanks a order ms b)
