-- What a step of a walk over places or lanes keeps and gives, and the numbered places of a lane or a layout.
use Rattle.std.specs.Prelude.{◌≡◌, ◌<◌, ◌+◌, ℕ, ℤ, pos, ◌+ℤ◌, ◌*ℤ◌, Option, MatchOption}
use Rattle.nd_shape_and_slice.specs.ShapesAndIndexOrders.{size_of, index_at}
use Rattle.nd_layout.specs.LayoutStepsOfCalls.{Placement, as_placement}
use Rattle.nd_layout.specs.RowMajorWalk.{IsLane, IsMovedOn, place_at_rank}
use Rattle.nd_layout.specs.declared.walk.walk_over_indexes.Walk.{Walk}
use Rattle.nd_layout.specs.declared.walk.lane.Lane.{Lane}
use Rattle.nd_layout.specs.declared.walk.lanes.Lanes.{Lanes}
use Rattle.nd_layout.specs.declared.walk.layout_as_lanes.Places.{Places}

-- A number of places, where `place k` is the k-th of them, counted from 0.
pub record Numbered : Type 0 where
  pub count : ℕ
  pub place : ℕ → ℤ

-- Says that both have as many places, and the same one at each number.
pub record NumberSamePlaces (new old : Numbered) : Type 0 where
  pub count : new.count ≡ old.count
  pub place : (k : ℕ) → k < old.count → new.place k ≡ old.place k

-- Returns the places of a lane, from its first on.
abbrev pub along : Lane → Numbered
along lane = record { count = lane.count; place = λ k. pos lane.place +ℤ (pos k *ℤ lane.stride) }

-- Returns the places of a layout, numbered by row-major rank.
abbrev pub by_rank : Placement → Numbered
by_rank p = record { count = size_of p.lengths; place = place_at_rank p.offset p.lengths p.strides }

-- Returns the offset, lengths and strides of the layout that has these places.
abbrev pub placement_in : Places → Placement
placement_in places = as_placement places.first places.lengths.now places.strides.now

-- Returns the places as numbered ones, by row-major rank.
abbrev pub ranked : Places → Numbered
ranked places = by_rank (placement_in places)

-- Says that the lanes go over the layout that has these places.
abbrev pub AreLanesOf : Places → Lanes → Type 0
AreLanesOf places lanes = (lanes.first ≡ places.first) × (lanes.lengths.now ≡ places.lengths.now) × (lanes.strides.now ≡ places.strides.now)

-- Says that both walks go over the same layout.
abbrev pub IsSameWalk : Walk → Walk → Type 0
IsSameWalk old new = (new.first.value ≡ old.first.value) × (new.lengths.now ≡ old.lengths.now) × (new.strides.now ≡ old.strides.now)

-- Says that the place of the new walk is that of the old one, moved on as the old index goes on to the next.
abbrev pub MovesOn : Walk → Walk → Type 0
MovesOn old new = IsMovedOn old.lengths.now old.strides.now (index_at old.lengths.now old.rank) old.place new.place

-- Says that both go over the same layout.
abbrev pub AreSameLanes : Lanes → Lanes → Type 0
AreSameLanes old new = (new.first ≡ old.first) × (new.lengths.now ≡ old.lengths.now) × (new.strides.now ≡ old.strides.now)

-- Says that `next` is the lane that begins at the rank of `old`, and that the rank of `new` comes after it; or that
-- `next` is None, as all places are passed, and the rank stays.
abbrev pub GivesNextLane : Lanes → Lanes → Option Lane → Type 0
GivesNextLane old new next =
    MatchOption next
    ((old.rank ≡ size_of old.lengths.now) × (new.rank ≡ old.rank))
    (λ lane. IsLane old.first old.lengths.now old.strides.now old.rank lane.place lane.count lane.stride × (new.rank ≡ old.rank + lane.count))
