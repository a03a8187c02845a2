-- What writes leave: at one index or two, at every index of a shape, at those of a rank, along a row.
use Rattle.std.specs.Prelude.{◌≡◌, ◌↔◌, ◌<◌, ℕ, Bool, false, List, [], ◌∷◌, Option, Some, IsTrue, option_map}
use Rattle.nd_array_core.specs.declared.base.array.ArrayBase.{ArrayBase}
use Rattle.nd_array_core.specs.Prelude.{Table, shape_of, element_at, in_box, size_of, first_index, row_rank, with_element_at, with_swapped_at, element_placed, LiesByRank}
use Rattle.nd_array_core.specs.ArrayInStorage.{PlacedArray}

module _ {S D A T R : Type 0} {s : _} {d : _} {n : _} {r : _} {t : _} where
  -- Says that the element of the index is set to `x`.
  abbrev pub WritesAt : List ℕ → A → ArrayBase S D T A R s d n r t → ArrayBase S D T A R s d n r t → Type 0
  WritesAt index x old new = (i : List ℕ) → element_at new i ≡ with_element_at (element_at old) index x i

  -- Says that the element of the index is set to `x`, if the shape has the index.
  abbrev pub WritesIfInside : List ℕ → A → ArrayBase S D T A R s d n r t → ArrayBase S D T A R s d n r t → Type 0
  WritesIfInside index x old new = IsTrue (in_box (shape_of old) index) → WritesAt index x old new

  -- Says that the first element is set to `x`, if there are elements.
  abbrev pub WritesFirst : A → ArrayBase S D T A R s d n r t → ArrayBase S D T A R s d n r t → Type 0
  WritesFirst x old new = ¬ (size_of (shape_of old) ≡ 0) → WritesAt (first_index (shape_of old)) x old new

  -- Says that the elements of two indexes with opposite coordinates are swapped.
  abbrev pub SwapsAcross : ℕ → ℕ → ArrayBase S D T A R s d n r t → ArrayBase S D T A R s d n r t → Type 0
  SwapsAcross row column old new = (i : List ℕ) → element_at new i ≡ with_swapped_at (element_at old) (row ∷ column ∷ []) (column ∷ row ∷ []) i

module _ {A : Type 0} where
  -- Says that each index of the shape has the value `x`.
  abbrev pub FillsBox : List ℕ → A → (List ℕ → Option A) → Type 0
  FillsBox shape x new = (i : List ℕ) → IsTrue (in_box shape i) → new i ≡ Some x

  -- Says that each index of the shape has what `f` makes of its old element.
  abbrev pub MapsBox : List ℕ → (A → A) → (List ℕ → Option A) → (List ℕ → Option A) → Type 0
  MapsBox shape f old new = (i : List ℕ) → IsTrue (in_box shape i) → new i ≡ option_map f (old i)

  -- Says that each index has the element that it had.
  abbrev pub SameElements : (List ℕ → Option A) → (List ℕ → Option A) → Type 0
  SameElements old new = (i : List ℕ) → new i ≡ old i

  -- Says that the index of this row-major rank has the value `x`.
  abbrev pub FillsRank : List ℕ → ℕ → A → (List ℕ → Option A) → Type 0
  FillsRank shape rank x new = (i : List ℕ) → IsTrue (in_box shape i) → row_rank shape i ≡ rank → new i ≡ Some x

  -- Says that each index of another row-major rank has the element that it had.
  abbrev pub SameOffRank : List ℕ → ℕ → (List ℕ → Option A) → (List ℕ → Option A) → Type 0
  SameOffRank shape rank old new = (i : List ℕ) → IsTrue (in_box shape i) → ¬ (row_rank shape i ≡ rank) → new i ≡ old i

  -- Says that each cell of the row has the value `x`.
  abbrev pub FillsRow : ℕ → A → Table A → (ℕ → ℕ → Option A) → Type 0
  FillsRow row x table new = (column : ℕ) → column < table.columns → new row column ≡ Some x

  -- Says that each cell of the row is as it was.
  abbrev pub SameRow : ℕ → Table A → (ℕ → ℕ → Option A) → Type 0
  SameRow row table new = (column : ℕ) → column < table.columns → new row column ≡ table.cells row column

  -- Says that each index of the view `v` has the value `x` afterwards, where `w` is the view once its storage is
  -- back.
  abbrev pub IsPlacedFilled : PlacedArray A → A → PlacedArray A → Type 0
  IsPlacedFilled v x w = FillsBox v.placed_shape x (element_placed w)

  -- Says that the flag tells whether the elements of the view `v` lie by their row-major rank. If they do, they have
  -- the value `x` afterwards, and otherwise they are as they were.
  abbrev pub FillsWhereByRank : PlacedArray A → A → PlacedArray A → Bool → Type 0
  FillsWhereByRank v x w lies =
      (IsTrue lies ↔ LiesByRank v.placed_shape v.place)
      × (IsTrue lies → IsPlacedFilled v x w)
      × (lies ≡ false → SameElements (element_placed v) (element_placed w))
