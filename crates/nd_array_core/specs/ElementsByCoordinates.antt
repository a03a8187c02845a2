-- Words for arrays of one to three axes: their elements by coordinates, and how many rows and columns they have.
use Rattle.std.specs.Prelude.{◌≡◌, ◌<◌, ◌^◌, ℕ, ⊤, List, [], ◌∷◌, slice_index, Option, Some}
use Rattle.nd_shape_and_slice.specs.declared.dimension.Dimension as dimension
use Rattle.nd_shape_and_slice.specs.declared.dimension.AxisCount as axis_count
use Rattle.nd_shape_and_slice.specs.declared.dimension.StrideList as stride_list
use Rattle.nd_elements.specs.declared.storage.Data as data_trait
use Rattle.nd_array_core.specs.declared.base.array.ArrayBase.{ArrayBase}
use Rattle.nd_array_core.specs.ArrayMeaning.{shape_of, element_at}

-- Says that each length of a shape is below 2 ^ 63, as a cast to `isize` requires.
abbrev pub AllShort : List ℕ → Type 0
AllShort [] = ⊤
AllShort (n ∷ ns) = (n < 2 ^ 63) × AllShort ns

-- Says that `y` is what the function `cell` gives of the row and the column of an index with two coordinates. Of any
-- other index it says nothing.
abbrev pub IsCell : {A : Type 0} → (ℕ → ℕ → A) → List ℕ → A → Type 0
IsCell cell [] y = ⊤
IsCell cell (i ∷ []) y = ⊤
IsCell cell (row ∷ column ∷ []) y = y ≡ cell row column
IsCell cell (i ∷ j ∷ k ∷ is) y = ⊤

-- Says that `y` is what the function `cell` gives of the coordinate of an index with one coordinate. Of any other index
-- it says nothing.
abbrev pub IsCellOf1 : {A : Type 0} → (ℕ → A) → List ℕ → A → Type 0
IsCellOf1 cell [] y = ⊤
IsCellOf1 cell (i ∷ []) y = y ≡ cell i
IsCellOf1 cell (i ∷ j ∷ is) y = ⊤

-- Says that `y` is what the function `cell` gives of the coordinates of an index with three coordinates. Of any other
-- index it says nothing.
abbrev pub IsCellOf3 : {A : Type 0} → (ℕ → ℕ → ℕ → A) → List ℕ → A → Type 0
IsCellOf3 cell [] y = ⊤
IsCellOf3 cell (i ∷ []) y = ⊤
IsCellOf3 cell (i ∷ j ∷ []) y = ⊤
IsCellOf3 cell (i ∷ j ∷ k ∷ []) y = y ≡ cell i j k
IsCellOf3 cell (i ∷ j ∷ k ∷ l ∷ is) y = ⊤

module _ {S D T A R : Type 0} {s : data_trait.Ghosts S A} {d : dimension.Ghosts D R} {n : axis_count.Ghosts D} {r : stride_list.Ghosts R} {t : stride_list.Ghosts T} where
  -- Returns the element of an array of one axis at the coordinate `i`, or None where there is none.
  abbrev pub element_of_1 : ArrayBase S D T A R s d n r t → ℕ → Option A
  element_of_1 a i = element_at a (i ∷ [])

  -- Returns the element of an array of two axes at a row and a column, or None where there is none.
  abbrev pub element_of_2 : ArrayBase S D T A R s d n r t → ℕ → ℕ → Option A
  element_of_2 a row column = element_at a (row ∷ column ∷ [])

  -- Returns the element of an array of three axes at three coordinates, or None where there is none.
  abbrev pub element_of_3 : ArrayBase S D T A R s d n r t → ℕ → ℕ → ℕ → Option A
  element_of_3 a i j k = element_at a (i ∷ j ∷ k ∷ [])

  -- Says that the array has one axis, which has the length `count`.
  abbrev pub HasLength : ArrayBase S D T A R s d n r t → ℕ → Type 0
  HasLength a count = shape_of a ≡ count ∷ []

  -- Says that the array has two axes, with `rows` rows and `columns` columns.
  abbrev pub HasRowsAndColumns : ArrayBase S D T A R s d n r t → ℕ → ℕ → Type 0
  HasRowsAndColumns a rows columns = shape_of a ≡ rows ∷ columns ∷ []

  -- Says that the element at each row below `rows` and each column below `columns` is what the function `cell` gives of
  -- them.
  abbrev pub HasCells : ArrayBase S D T A R s d n r t → ℕ → ℕ → (ℕ → ℕ → A) → Type 0
  HasCells a rows columns cell = (row column : ℕ) → row < rows → column < columns → element_of_2 a row column ≡ Some (cell row column)

  -- Says that the element at each coordinate below `count` is what the function `cell` gives of the coordinate.
  abbrev pub HasCellsOf1 : ArrayBase S D T A R s d n r t → ℕ → (ℕ → A) → Type 0
  HasCellsOf1 a count cell = (i : ℕ) → i < count → element_of_1 a i ≡ Some (cell i)

  -- Says that the element at each three coordinates below `planes`, `rows` and `columns` is what the function `cell`
  -- gives of them.
  abbrev pub HasCellsOf3 : ArrayBase S D T A R s d n r t → ℕ → ℕ → ℕ → (ℕ → ℕ → ℕ → A) → Type 0
  HasCellsOf3 a planes rows columns cell = (i j k : ℕ) → i < planes → j < rows → k < columns → element_of_3 a i j k ≡ Some (cell i j k)

module _
    {S D A T R : Type 0} {s : data_trait.Ghosts S A} {d : dimension.Ghosts D R} {n : axis_count.Ghosts D} {r : stride_list.Ghosts R} {t : stride_list.Ghosts T}
    {Z E U X : Type 0} {z : data_trait.Ghosts Z A} {e : dimension.Ghosts E X} {k : axis_count.Ghosts E} {x : stride_list.Ghosts X} {u : stride_list.Ghosts U} where
  -- Says that, if `line` is as long as `a` has columns, then the row of `b` after as many rows as `a` has consists of
  -- the elements of `line`.
  abbrev pub GetsRow : ArrayBase S D T A R s d n r t → ArrayBase Z E U A X z e k x u → ArrayBase S D T A R s d n r t → Type 0
  GetsRow a line b = HasLength line (slice_index (shape_of a) 1) → (column : ℕ) → element_of_2 b (slice_index (shape_of a) 0) column ≡ element_of_1 line column

  -- Says that, if `line` is as long as `a` has rows, then the column of `b` after as many columns as `a` has consists
  -- of the elements of `line`.
  abbrev pub GetsColumn : ArrayBase S D T A R s d n r t → ArrayBase Z E U A X z e k x u → ArrayBase S D T A R s d n r t → Type 0
  GetsColumn a line b = HasLength line (slice_index (shape_of a) 0) → (row : ℕ) → element_of_2 b row (slice_index (shape_of a) 1) ≡ element_of_1 line row
