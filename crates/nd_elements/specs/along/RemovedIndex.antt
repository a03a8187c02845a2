-- One coordinate of an axis removed: those after it move one towards the front, and in storage it goes to the end.
use Rattle.std.specs.Prelude.{◌≡◌, ◌+◌, ◌-◌, ◌<◌, ℕ, ℤ, pos, nat_lt, nat_eq, List, Option, Some, slice_index, slice_set, if◌then◌else◌}
use Rattle.nd_shape_and_slice.specs.declared.slice.Slice.{Slice}
use Rattle.nd_layout.specs.NumberedPlacesAndWalks.{Numbered}
use Rattle.nd_layout.specs.StridesAfterLayoutCalls.{sliced_strides}
use Rattle.nd_elements.specs.ShapeAndElements.{Meaning, inside}
use Rattle.nd_elements.specs.StoragePlaces.{stored_at}
use Rattle.nd_elements.specs.along.AxisLanes.{LanePlaces}

-- Returns the shape `ns` with the axis `a` one shorter.
abbrev pub removed_shape : List ℕ → ℕ → List ℕ
removed_shape ns a = slice_set ns a (slice_index ns a - 1)

-- Returns the slice of all coordinates below `last`.
abbrev pub front_slice : ℕ → Slice
front_slice last = record { start = pos 0; end = Some (pos last); step = pos 1 }

-- Returns the index at which the element at `i` stood before the coordinate `k` of the axis `a` was removed.
abbrev pub removed_index : ℕ → ℕ → List ℕ → List ℕ
removed_index a k i = slice_set i a (if nat_lt (slice_index i a) k then slice_index i a else slice_index i a + 1)

-- Returns the strides of the layout once the axis `a` is one shorter.
abbrev pub removed_strides : List ℕ → List ℤ → ℕ → List ℤ
removed_strides ns ss a = sliced_strides ns ss a (front_slice (slice_index ns a - 1))

-- Returns the element at the index `i` once the coordinate `k` of the axis `a` is removed from `m`.
abbrev pub removed_at : {A : Type 0} → Meaning A → ℕ → ℕ → List ℕ → Option A
removed_at m a k i = inside (removed_shape m.shape a) i (m.at (removed_index a k i))

-- Each index of the shape with the axis `a` one shorter has in `new` its place in `old`, and no other index has a
-- place.
abbrev pub KeepPlaces : List ℕ → ℕ → (List ℕ → Option ℕ) → (List ℕ → Option ℕ) → Type 0
KeepPlaces ns a old new = (i : List ℕ) → new i ≡ inside (removed_shape ns a) i (old i)

-- The place of the last index of each lane along the axis `a` holds the element that the lane had at the coordinate
-- `k`.
abbrev pub LieAtEnds : {A : Type 0} → Meaning A → (List ℕ → Option ℕ) → ℕ → ℕ → (ℕ → Option A) → Type 0
LieAtEnds m place a k stored = (i : List ℕ) (p : ℕ) → slice_index i a + 1 ≡ slice_index m.shape a → place i ≡ Some p → stored p ≡ m.at (slice_set i a k)

-- Returns which of `n` coordinates comes to `i` when `k` goes to the end and those after it move one towards the front.
abbrev pub rotated : ℕ → ℕ → ℕ → ℕ
rotated k n i = if nat_lt i k then i else (if nat_lt (i + 1) n then i + 1 else (if nat_eq (i + 1) n then k else i))

-- Returns the index whose element comes to `i` when the coordinate `k` of the axis `a` goes to the end.
abbrev pub rotated_index : List ℕ → ℕ → ℕ → List ℕ → List ℕ
rotated_index ns a k i = slice_set i a (rotated k (slice_index ns a) (slice_index i a))

module _ {A : Type 0} (old new : ℕ → Option A) where
  -- Each of the first `n` numbered places holds in `new` what the place with the number that `from` tells holds in
  -- `old`, and every other place holds what it held.
  pub record IsMovedBy (place : ℕ → ℤ) (n : ℕ) (from : ℕ → ℕ) : Type 0 where
    pub done : (k : ℕ) → k < n → stored_at new (place k) ≡ stored_at old (place (from k))
    pub left : (p : ℕ) → ((k : ℕ) → k < n → ¬ (place k ≡ pos p)) → new p ≡ old p

  -- In each of the `lanes` lanes, each of the first `n` places holds in `new` what the place with the number that
  -- `from` tells holds in `old`, and every other place holds what it held.
  pub record AreMovedBy (place : ℕ → ℕ → ℤ) (lanes n : ℕ) (from : ℕ → ℕ) : Type 0 where
    pub done : (r k : ℕ) → r < lanes → k < n → stored_at new (place r k) ≡ stored_at old (place r (from k))
    pub left : (p : ℕ) → ((r k : ℕ) → r < lanes → k < n → ¬ (place r k ≡ pos p)) → new p ≡ old p

-- Storages whose elements at numbered places, or along lanes, are moved.
module _ {S A : Type 0} (stored : S → ℕ → Option A) where
  -- Says that the element at the number `k` goes to the end, that those after it move one towards the front, and that
  -- every other place holds what it held.
  abbrev pub RotatesPlaces : Numbered → ℕ → S → S → Type 0
  RotatesPlaces at k old new = IsMovedBy (stored old) (stored new) at.place at.count (rotated k at.count)

  -- Says that in each lane the element at the number `k` goes to the end, that those after it move one towards the
  -- front, and that every other place holds what it held.
  abbrev pub RotatesLanes : LanePlaces → ℕ → S → S → Type 0
  RotatesLanes at k old new = AreMovedBy (stored old) (stored new) at.place at.lanes at.count (rotated k at.count)
