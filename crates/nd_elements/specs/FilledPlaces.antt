-- What a storage holds once one value was written at one place after another.
use Rattle.std.specs.Prelude.{◌≡◌, ◌⊎◌, ℕ, ◌<◌, ℤ, pos, Option, Some}
use Rattle.nd_layout.specs.NumberedPlacesAndWalks.{Numbered, ranked}
use Rattle.nd_layout.specs.declared.walk.layout_as_lanes.Places.{Places}
use Rattle.nd_elements.specs.LackOfMemory.{MayLackForClones}
use Rattle.nd_elements.specs.StoragePlaces.{stored_at}

module _ {A : Type 0} (place : ℕ → ℤ) (count : ℕ) (x : A) (old new : ℕ → Option A) where
  -- Each of the `count` numbered places holds `x` or what it held, and every other place holds what it held.
  pub record IsPartlyFilled : Type 0 where
    pub left : (p : ℕ) → ((k : ℕ) → k < count → ¬ (place k ≡ pos p)) → new p ≡ old p
    pub each : (p : ℕ) → (new p ≡ old p) ⊎ (new p ≡ Some x)

  -- Each of the `count` numbered places holds `x`, and every other place holds what it held.
  pub record IsFilledTo : Type 0 where
    pub done : (k : ℕ) → k < count → stored_at new (place k) ≡ Some x
    pub left : (p : ℕ) → ((k : ℕ) → k < count → ¬ (place k ≡ pos p)) → new p ≡ old p
    pub each : (p : ℕ) → (new p ≡ old p) ⊎ (new p ≡ Some x)

-- A storage in which `x` is written at the numbered places `at`.
module _ {S A : Type 0} (stored : S → ℕ → Option A) (at : Numbered) (x : A) (old new : S) where
  -- Says that each of the numbered places holds `x` in `new`, and every other place what it holds in `old`.
  abbrev pub Fills : Type 0
  Fills = IsFilledTo at.place at.count x (stored old) (stored new)

  -- Says that some of the numbered places hold `x` in `new`, and all other places what they hold in `old`.
  abbrev pub FillsInPart : Type 0
  FillsInPart = IsPartlyFilled at.place at.count x (stored old) (stored new)

-- A storage in which `x` is written at the places of a layout.
module _ {S A : Type 0} (stored : S → ℕ → Option A) (places : Places) (x : A) (old new : S) where
  -- Says that each place of the layout holds `x` in `new`, and every other place what it holds in `old`.
  abbrev pub FillsAll : Type 0
  FillsAll = Fills stored (ranked places) x old new

  -- Says that some places of the layout hold `x` in `new`, and all other places what they hold in `old`.
  abbrev pub FillsSome : Type 0
  FillsSome = FillsInPart stored (ranked places) x old new

-- Says that a clone of `x` may be refused, and the layout has a place for which `x` is to be cloned.
abbrev pub MayLackFilling : {A : Type 0} → (A → Type 0) → A → Places → Type 0
MayLackFilling is_infallible x places = MayLackForClones is_infallible x (ranked places).count
