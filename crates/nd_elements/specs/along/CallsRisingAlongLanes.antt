-- Calls for each index of a shape once, by which every lane of an axis is gone along from its first index on.
use Rattle.std.specs.Prelude.{◌≡◌, ◌+◌, ◌<◌, ℕ, List, [], ◌∷◌, ◌++◌, Some, slice_get, slice_index, slice_set, IsTrue}
use Rattle.std.specs.List.{FoldsTo}
use Rattle.nd_shape_and_slice.specs.ShapesAndIndexOrders.{in_box}
use Rattle.nd_elements.specs.CallsInFreeOrder.{ListsBox, ListsPartOfBox}

-- Returns the index after `i` along the axis `a`.
abbrev pub next_index : ℕ → List ℕ → List ℕ
next_index a i = slice_set i a (slice_index i a + 1)

-- Each index of the list that has one before it along the axis `a` comes after that one in the list.
abbrev pub RisesAlong : ℕ → List (List ℕ) → Type 0
RisesAlong a listing = (m k : ℕ) (i : List ℕ) → slice_get listing m ≡ Some i → slice_index i a ≡ k + 1 → (j : ℕ) × (j < m) × (slice_get listing j ≡ Some (slice_set i a k))

module _ {P : Type 0} (shape : List ℕ) (a : ℕ) where
  -- Says that one call for each index of the box, along each lane in rising order, led from the state `first` to
  -- `last`.
  abbrev pub VisitedAlong : (P → List ℕ → P → Type 0) → P → P → Type 0
  VisitedAlong call first last = (listing : List (List ℕ)) × ListsBox shape listing × RisesAlong a listing × FoldsTo call first listing last

  -- Says that whichever indexes were visited from `first` on, along each lane in rising order, a call for the next
  -- index in such an order may be made. `left` is what calls leave, of which `starts` holds.
  abbrev pub CallableAlong : {M : Type 0} → (M → Type 0) → (M → P → List ℕ → P → Type 0) → (M → P → List ℕ → Type 0) → P → Type 0
  CallableAlong {M} starts call takes first =
      (left : M) (before : List (List ℕ)) (now : P) (next : List ℕ) → starts left → IsTrue (in_box shape next) → ListsPartOfBox shape (next ∷ before)
      → RisesAlong a (before ++ next ∷ []) → FoldsTo (call left) first before now → takes left now next
