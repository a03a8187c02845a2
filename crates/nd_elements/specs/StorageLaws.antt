-- What every storage that can be written keeps to. `stored` tells what lies at each place, `items` all elements in the
-- order in which they lie.
use Rattle.std.specs.Prelude.{◌≡◌, ℕ, ◌+◌, ◌<◌, Bool, false, List, length, Option, IsSome, slice_get}
use Rattle.std.specs.Option.{is_some}
use Rattle.nd_region.specs.RegionPlaces.{written_where}
use Rattle.nd_elements.specs.StoragePlaces.{written_at}
use Rattle.nd_elements.specs.ElementBorrowEnds.{KeepsPlaces}
use Rattle.nd_elements.specs.RunBorrowEnds.{HasRunAt, IsOutsideRun}

module _ {S A : Type 0} (stored : S → ℕ → Option A) where
  -- Once the element at a place is set to `x`, the storage holds `x` there and its old elements elsewhere.
  abbrev pub WritesOneElement : ((s : S) → ℕ → A → (t : S) × KeepsPlaces (stored s) (stored t)) → Type 0
  WritesOneElement with_element = (s : S) (place : ℕ) (x : A) (p : ℕ) → IsSome (stored s place) → stored (with_element s place x).0 p ≡ written_at (stored s) place x p

  module _ (with_run : (s : S) → ℕ → ℕ → List A → (t : S) × KeepsPlaces (stored s) (stored t)) where
    -- Once the elements of a run are set to `ws`, the storage holds the items of `ws` at the places of the run.
    abbrev pub HoldsWrittenRun : Type 0
    HoldsWrittenRun = (s : S) (place count : ℕ) (ws : List A) → HasRunAt (stored s) place count → length ws ≡ count → (k : ℕ) → k < count → stored (with_run s place count ws).0 (place + k) ≡ slice_get ws k

    -- Once the elements of a run are set to `ws`, the storage holds its old elements outside the run.
    abbrev pub KeepsOutsideRun : Type 0
    KeepsOutsideRun = (s : S) (place count : ℕ) (ws : List A) → HasRunAt (stored s) place count → length ws ≡ count → (p : ℕ) → IsOutsideRun place count p → stored (with_run s place count ws).0 p ≡ stored s p

  module _ (refilled : (s : S) → List A → (t : S) × KeepsPlaces (stored s) (stored t)) where
    -- If `t` is `s` refilled with `ws`, then `s` refilled with the elements of `t` is `t`.
    abbrev pub HoldsLastRefill : (S → List A) → Type 0
    HoldsLastRefill items = (s : S) (ws : List A) → (refilled s (items (refilled s ws).0)).0 ≡ (refilled s ws).0

    -- A storage refilled with as many elements as it has holds exactly these.
    abbrev pub HasRefilledItems : (S → List A) → Type 0
    HasRefilledItems items = (s : S) (ws : List A) → length ws ≡ length (items s) → items (refilled s ws).0 ≡ ws

    -- A storage refilled at the places that pass `test` holds at each place that fails it what it held.
    abbrev pub KeepsUnfilledPlaces : (S → List A) → Type 0
    KeepsUnfilledPlaces items = (s : S) (test : ℕ → Bool) (ws : List A) (p : ℕ) → test p ≡ false → stored (refilled s (written_where test (items s) ws)).0 p ≡ stored s p

    -- A refilled storage holds an element exactly at the places at which it held one.
    abbrev pub HoldsWhereBefore : Type 0
    HoldsWhereBefore = (s : S) (ws : List A) (p : ℕ) → is_some (stored (refilled s ws).0 p) ≡ is_some (stored s p)
