-- What a storage holds once given elements were written at one place after another.
use Rattle.std.specs.Prelude.{◌≡◌, ◌⊎◌, ◌<◌, ℕ, ℤ, pos, Option, Result, OnOk, OnErr}
use Rattle.nd_layout.specs.NumberedPlacesAndWalks.{Numbered, along, ranked}
use Rattle.nd_layout.specs.declared.walk.lane.Lane.{Lane}
use Rattle.nd_layout.specs.declared.walk.layout_as_lanes.Places.{Places}
use Rattle.nd_elements.specs.ElementsAtNumberedPlaces.{elements_at}
use Rattle.nd_elements.specs.StoragePlaces.{stored_at}

module _ {A : Type 0} (given : ℕ → Option A) (place : ℕ → ℤ) (count : ℕ) (old new : ℕ → Option A) where
  -- Each of the `count` numbered places holds the element given for its number, and every other place holds what it
  -- held.
  pub record IsAssignedTo : Type 0 where
    pub done : (k : ℕ) → k < count → stored_at new (place k) ≡ given k
    pub left : (p : ℕ) → ((k : ℕ) → k < count → ¬ (place k ≡ pos p)) → new p ≡ old p

  -- Each of the `count` numbered places holds what it held or the element given for its number, and every other place
  -- holds what it held.
  pub record IsPartlyAssigned : Type 0 where
    pub each : (k : ℕ) → k < count → (stored_at new (place k) ≡ stored_at old (place k)) ⊎ (stored_at new (place k) ≡ given k)
    pub left : (p : ℕ) → ((k : ℕ) → k < count → ¬ (place k ≡ pos p)) → new p ≡ old p

-- The elements of a second storage `others` assigned to a storage, from and to places with the same numbers.
module _ {S Z A : Type 0} (stored : S → ℕ → Option A) (others_stored : Z → ℕ → Option A) where
  -- Says that each place of `at` holds in `new` the element that `others` holds at the place of `theirs` with the same
  -- number, and every other place what it holds in `old`.
  abbrev pub MovesAt : Numbered → Numbered → Z → S → S → Type 0
  MovesAt at theirs others old new = IsAssignedTo (elements_at others_stored theirs others) at.place at.count (stored old) (stored new)

  -- Says that each place along `lane` holds in `new` the element of `others` at the same number along `theirs`, and
  -- every other place what it holds in `old`.
  abbrev pub MovesAlong : Lane → Lane → Z → S → S → Type 0
  MovesAlong lane theirs others old new = MovesAt (along lane) (along theirs) others old new

  -- Says that each place of the layout holds in `new` the element of `others` at the same row-major rank in `theirs`,
  -- and every other place what it holds in `old`.
  abbrev pub Moves : Places → Places → Z → S → S → Type 0
  Moves places theirs others old new = MovesAt (ranked places) (ranked theirs) others old new

  -- Assignments that may end with an error of the type `E`, as when there is no memory for a clone.
  module _ {E : Type 0} where
    -- Says that on `Ok` each place of `at` holds the element of `others` with its number, and on `Err` that element or
    -- what it held. In both cases every other place holds what it held.
    abbrev pub AssignsAt : Numbered → Numbered → Z → S → S → Result (Unit {0}) E → Type 0
    AssignsAt at theirs others old new result =
        OnOk result (MovesAt at theirs others old new)
        × OnErr result (IsPartlyAssigned (elements_at others_stored theirs others) at.place at.count (stored old) (stored new))

    -- Says that on `Ok` each place along `lane` holds the element of `others` with its number along `theirs`, and on
    -- `Err` that element or what it held. In both cases every other place holds what it held.
    abbrev pub AssignsAlong : Lane → Lane → Z → S → S → Result (Unit {0}) E → Type 0
    AssignsAlong lane theirs others old new result = AssignsAt (along lane) (along theirs) others old new result

    -- Says that on `Ok` each place of the layout holds the element of `others` with its row-major rank, and on `Err`
    -- that element or what it held. In both cases every other place holds what it held.
    abbrev pub Assigns : Places → Places → Z → S → S → Result (Unit {0}) E → Type 0
    Assigns places theirs others old new result = AssignsAt (ranked places) (ranked theirs) others old new result
