-- The lanes of an axis: each has the places that differ in the coordinate of the axis alone.
use Rattle.std.specs.Prelude.{◌≡◌, ◌+◌, ◌*◌, ◌<◌, ◌^◌, ℕ, ℤ, pos, ◌+ℤ◌, ◌*ℤ◌, List, Option, MatchOption, slice_index, IsTrue}
use Rattle.nd_shape_and_slice.specs.ShapesAndIndexOrders.{in_box, size_of, index_at}
use Rattle.nd_shape_and_slice.specs.PlacesAndOverlaps.{place_of}
use Rattle.nd_shape_and_slice.specs.LayoutIndexMaps.{indexed_shape, indexed_index, collapsed_shape, collapsed_index}
use Rattle.nd_layout.specs.LayoutStepsOfCalls.{Placement, IsStepOf}
use Rattle.nd_layout.specs.ValidMemoryPlaces.{is_place}
use Rattle.nd_layout.specs.RowMajorWalk.{place_at_rank}
use Rattle.nd_layout.specs.declared.walk.lane.Lane.{Lane}
use Rattle.nd_elements.specs.StoragePlaces.{names_place}

-- Returns the place with the number `k` of the lane that begins where the outer layout has its row-major rank `r`.
abbrev pub lane_place : ℕ → List ℕ → List ℤ → ℤ → ℕ → ℕ → ℤ
lane_place first lengths strides stride r k = place_at_rank first lengths strides r +ℤ (pos k *ℤ stride)

-- Each of the `count` numbers that `place` gives for each of the `lanes` lanes is a place: not negative, and below
-- 2^63.
abbrev pub LanesReach : (ℕ → ℕ → ℤ) → ℕ → ℕ → Type 0
LanesReach place lanes count = (r k : ℕ) → r < lanes → k < count → IsTrue (is_place (place r k))

-- Each of the `count` numbers from `first` on is a place: it is below 2^63.
abbrev pub RunReaches : ℕ → ℕ → Type 0
RunReaches first count = (k : ℕ) → k < count → IsTrue (is_place (pos (first + k)))

-- No two of the `count` places that each of the `lanes` lanes has are the same.
abbrev pub LanesDistinct : (ℕ → ℕ → ℤ) → ℕ → ℕ → Type 0
LanesDistinct place lanes count = (r k q j : ℕ) → r < lanes → q < lanes → k < count → j < count → place r k ≡ place q j → (r ≡ q) × (k ≡ j)

-- If the axis doesn't have length 0, then the layout `new`, without that axis, has the places of `old` at its
-- coordinate 0.
abbrev pub IsFirstOfLanes : ℕ → Placement → Placement → Type 0
IsFirstOfLanes axis old new = 0 < slice_index old.lengths axis → IsStepOf old new (indexed_index axis 0)

-- Says that `lane` has the same first place, length and stride as `other`.
abbrev pub LiesAs : Lane → Lane → Type 0
LiesAs lane other = (lane.place ≡ other.place) × (lane.count ≡ other.count) × (lane.stride ≡ other.stride)

-- The places of `lanes` lanes of length `count`: `place r k` is the place with the number `k` of the lane `r`.
pub record LanePlaces : Type 0 where
  pub lanes : ℕ
  pub count : ℕ
  pub place : ℕ → ℕ → ℤ

-- Returns the lanes of length `count` that begin at the places of the layout `firsts`, in row-major order, and go on by
-- `stride`.
abbrev pub lanes_from : Placement → ℕ → ℤ → LanePlaces
lanes_from firsts count stride = record { lanes = size_of firsts.lengths; count = count; place = lane_place firsts.offset firsts.lengths firsts.strides stride }

-- Returns the places of `lanes` lanes of which the first is `lane`, and each next one begins one place further.
abbrev pub parallel_lanes : ℕ → Lane → LanePlaces
parallel_lanes lanes lane = record { lanes = lanes; count = lane.count; place = λ r k. pos (lane.place + r) +ℤ (pos k *ℤ lane.stride) }

-- Says that `lane` is the first of the lanes, and that each next one begins one place further.
abbrev pub BeginContiguously : LanePlaces → Lane → Type 0
BeginContiguously at lane = (lane.count ≡ at.count) × ((r k : ℕ) → r < at.lanes → (parallel_lanes at.lanes lane).place r k ≡ at.place r k)

-- Says that the lanes have fewer than 2^63 places together, so that a layout of all of them may exist.
abbrev pub AreChecked : LanePlaces → Type 0
AreChecked at = at.lanes * at.count < 2 ^ 63

-- Says that each number that the lanes have for a place is one: not negative, and below 2^63.
abbrev pub LanesLie : LanePlaces → Type 0
LanesLie at = LanesReach at.place at.lanes at.count

-- Says that no two places of the lanes are the same.
abbrev pub LanesDiffer : LanePlaces → Type 0
LanesDiffer at = LanesDistinct at.place at.lanes at.count

-- Says that the storage `s` holds an element at each place of the lanes.
abbrev pub LanesHold : {S A : Type 0} → (S → ℕ → Option A) → LanePlaces → S → Type 0
LanesHold stored at s = (r k : ℕ) → r < at.lanes → k < at.count → IsTrue (names_place (stored s) (at.place r k))

-- Says that `lane` has the places of the lane with the number `r`.
abbrev pub IsLaneAt : LanePlaces → ℕ → Lane → Type 0
IsLaneAt at r lane = (r < at.lanes) × (lane.count ≡ at.count) × ((k : ℕ) → pos lane.place +ℤ (pos k *ℤ lane.stride) ≡ at.place r k)

-- Says that after `old` lanes `next` is the lane with that number, and `new` is one more, or that `next` is `None` and
-- these were all lanes.
abbrev pub GivesLaneInTurn : LanePlaces → ℕ → ℕ → Option Lane → Type 0
GivesLaneInTurn at old new next = MatchOption next (old ≡ at.lanes) (λ lane. IsLaneAt at old lane × (new ≡ old + 1))

-- There is one lane for each index of `shape`, in row-major order, and in it one place for each coordinate of the axis:
-- the place of the layout's index that `index` gives of the coordinate and the index of `shape`. No two of them give
-- the same index.
pub record LieBy (shape : List ℕ) (index : ℕ → List ℕ → List ℕ) (axis : ℕ) (layout : Placement) (at : LanePlaces) : Type 0 where
  pub lanes : at.lanes ≡ size_of shape
  pub count : at.count ≡ slice_index layout.lengths axis
  pub inside : (r k : ℕ) → r < at.lanes → k < at.count → IsTrue (in_box layout.lengths (index k (index_at shape r)))
  pub placed : (r k : ℕ) → r < at.lanes → k < at.count → at.place r k ≡ place_of layout.offset layout.strides (index k (index_at shape r))
  pub alone : (r k q j : ℕ) → r < at.lanes → q < at.lanes → k < at.count → j < at.count → index k (index_at shape r) ≡ index j (index_at shape q) → (r ≡ q) × (k ≡ j)

-- Says that the lanes are those of the layout's axis, in the row-major order of the indexes of the other axes.
abbrev pub LieAlong : ℕ → Placement → LanePlaces → Type 0
LieAlong axis layout at = LieBy (indexed_shape layout.lengths axis) (indexed_index axis) axis layout at

-- Says that the lanes are those of the layout's axis, in the row-major order of the indexes that are 0 at the axis.
abbrev pub LieThrough : ℕ → Placement → LanePlaces → Type 0
LieThrough axis layout at = LieBy (collapsed_shape layout.lengths axis) (collapsed_index axis) axis layout at

-- Says that `lane` is the lane of the axis through the index `i` of the other axes: it has one place for each
-- coordinate of the axis, that of the layout's index with this coordinate and with `i` at the other axes.
abbrev pub IsLaneThrough : ℕ → Placement → List ℕ → Lane → Type 0
IsLaneThrough axis layout i lane =
    (lane.count ≡ slice_index layout.lengths axis)
    × ((k : ℕ) → k < lane.count → IsTrue (in_box layout.lengths (indexed_index axis k i)) × (pos lane.place +ℤ (pos k *ℤ lane.stride) ≡ place_of layout.offset layout.strides (indexed_index axis k i)))

-- The numbers below `all` are those of the pairs of a lane and a coordinate, each pair once, and along each lane they
-- rise.
pub record IsPairing (lanes count all : ℕ) (lane column : ℕ → ℕ) (number : ℕ → ℕ → ℕ) : Type 0 where
  pub lane_below : (m : ℕ) → m < all → lane m < lanes
  pub column_below : (m : ℕ) → m < all → column m < count
  pub is_number : (m : ℕ) → m < all → number (lane m) (column m) ≡ m
  pub below : (r k : ℕ) → r < lanes → k < count → number r k < all
  pub lane_is : (r k : ℕ) → r < lanes → k < count → lane (number r k) ≡ r
  pub column_is : (r k : ℕ) → r < lanes → k < count → column (number r k) ≡ k
  pub rises : (r k : ℕ) → r < lanes → k + 1 < count → number r k < number r (k + 1)
