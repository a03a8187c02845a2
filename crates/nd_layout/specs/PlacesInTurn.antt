-- The places of a layout one after another: how many there are, which they are, and how many were given so far.
use Rattle.std.specs.Prelude.{◌≡◌, ◌<◌, ◌≤◌, ◌+◌, ◌*◌, ℕ, ℤ, pos, ◌+ℤ◌, ◌*ℤ◌, List, Option, MatchOption}
use Rattle.nd_shape_and_slice.specs.ShapesAndIndexOrders.{size_of}
use Rattle.nd_layout.specs.RowMajorWalk.{place_at_rank}
use Rattle.nd_layout.specs.declared.walk.layout_as_lanes.Places.{Places}
use Rattle.nd_layout.specs.declared.walk.places_in_turn.PlacesInTurn.{PlacesInTurn}

-- Says that a run of `length` places, which begins at `first` and goes on by `stride`, has the places from the number
-- `begun` on, of `count` places in all, and that so many are given: those before the run, and maybe some of it.
pub record RunGoesOn (count : ℕ) (place : ℕ → ℤ) (length first : ℕ) (stride : ℤ) (begun given : ℕ) : Type 0 where
  pub from : begun ≤ given
  pub upto : given ≤ begun + length
  pub within : begun + length ≤ count
  pub places : (k : ℕ) → k < length → pos first +ℤ (pos k *ℤ stride) ≡ place (begun + k)

-- Returns the number of the places.
abbrev pub turn_count : PlacesInTurn → ℕ
turn_count turns = size_of turns.places.lengths.now

-- Returns the place of this number, counted from 0.
abbrev pub turn_place : PlacesInTurn → ℕ → ℤ
turn_place turns = place_at_rank turns.places.first turns.places.lengths.now turns.places.strides.now

-- Says that so many of the places were given so far, and that those which are left of the run come next.
abbrev pub HasGiven : PlacesInTurn → ℕ → Type 0
HasGiven turns given = RunGoesOn (turn_count turns) (turn_place turns) turns.run.count turns.run.place turns.run.stride turns.begun given

-- Says that `found` is the place of this number, or None if that is the number of all places.
abbrev pub GivesPlaceInTurn : PlacesInTurn → ℕ → Option ℕ → Type 0
GivesPlaceInTurn turns given found = MatchOption found (given ≡ turn_count turns) (λ place. (given < turn_count turns) × (pos place ≡ turn_place turns given))

-- Says that both give the same places.
abbrev pub HaveSamePlaces : PlacesInTurn → PlacesInTurn → Type 0
HaveSamePlaces old new = (turn_count new ≡ turn_count old) × (turn_place new ≡ turn_place old)

-- Says that these are the places of the layout with this offset, these lengths and strides, by row-major rank.
abbrev pub ArePlacesOfLayout : ℕ → List ℕ → List ℤ → PlacesInTurn → Type 0
ArePlacesOfLayout offset lengths strides turns = (turn_count turns ≡ size_of lengths) × (turn_place turns ≡ place_at_rank offset lengths strides)

-- Says that these are the places of a layout by row-major rank.
abbrev pub ArePlacesOf : Places → PlacesInTurn → Type 0
ArePlacesOf places turns = ArePlacesOfLayout places.first places.lengths.now places.strides.now turns

-- Says that lanes of `count` places, a stride apart, begin at `lanes` places: they have all places of the layout, and
-- the lane of number r has the ranks from r times the count on.
pub record BeginLanes (offset : ℕ) (lengths : List ℕ) (strides : List ℤ) (lanes : ℕ) (start : ℕ → ℤ) (count : ℕ) (stride : ℤ) : Type 0 where
  pub size : lanes * count ≡ size_of lengths
  pub places : (r k : ℕ) → r < lanes → k < count → start r +ℤ (pos k *ℤ stride) ≡ place_at_rank offset lengths strides (r * count + k)
