-- Elements taken out of their slots, one place after another.
use Rattle.std.specs.Prelude.{ℕ, ◌<◌, ◌≡◌, Bool, true, false, List, ◌++◌, ℤ, pos, Option, slice_get, slice_index_or, IsTrue}
use Rattle.std.specs.Mem.Slots.{slots_items, slots_filled}
use Rattle.core.specs.declared.slots.Slots.{Slots}
use Rattle.std.specs.declared.vec.Vec.{Vec}
use Rattle.nd_layout.specs.NumberedPlacesAndWalks.{Numbered}
use Rattle.nd_elements.specs.StoragePlaces.{kept_at, stored_at}
use Rattle.nd_elements.specs.CollectedElements.{collected}

-- Returns the element in the slot at a place, and `None` once it was taken or where there is no slot.
abbrev pub seated : {A : Type 0} → Slots A → ℕ → Option A
seated row = kept_at (λ p. slice_index_or (slots_filled row) p false) (slice_get (slots_items row))

-- Says that the element at the place `p` is kept: `marks` is true there, or doesn't reach so far.
abbrev pub is_kept : List Bool → ℕ → Bool
is_kept marks p = slice_index_or marks p true

-- The elements at the places with the numbers below `count` are kept.
abbrev pub AreKept : (ℕ → ℤ) → ℕ → List Bool → Type 0
AreKept place count marks = (k p : ℕ) → k < count → place k ≡ pos p → IsTrue (is_kept marks p)

-- The elements at all numbered places are kept.
abbrev pub AreAllKept : {Z : Type 0} → Numbered → Vec Bool Z → Type 0
AreAllKept at marks = AreKept at.place at.count marks.items

-- The list `after` has the items of `before`, and after them the elements of `old` at the `count` numbered places.
-- Every other place holds in `new` what it holds in `old`.
pub record IsTakenTo {A : Type 0} (place : ℕ → ℤ) (count : ℕ) (old new : ℕ → Option A) (before after : List A) : Type 0 where
  pub put : after ≡ before ++ collected (λ k. stored_at old (place k)) count
  pub left : (p : ℕ) → ((k : ℕ) → k < count → ¬ (place k ≡ pos p)) → new p ≡ old p

-- Says that the list `after` has the items of `before`, and after them the elements in the slots of `old` at the
-- numbered places. Every other slot holds in `new` what it holds in `old`.
abbrev pub TakesSeats : {A : Type 0} → Numbered → Slots A → Slots A → List A → List A → Type 0
TakesSeats at old new before after = IsTakenTo at.place at.count (seated old) (seated new) before after
