-- Layouts cut in two at one coordinate of one axis.
use Rattle.std.specs.Prelude.{ℕ, ◌+◌, ◌<◌, ◌≡◌, ◌⊎◌, List, length, slice_index, ℤ, IsTrue}
use Rattle.std.specs.List.{sum}
use Rattle.nd_shape_and_slice.specs.ShapesAndIndexOrders.{in_box, size_of}
use Rattle.nd_shape_and_slice.specs.declared.dimension.Dimension as dimension
use Rattle.nd_shape_and_slice.specs.declared.dimension.AxisCount as axis_count
use Rattle.nd_shape_and_slice.specs.declared.dimension.StrideList as stride_list
use Rattle.nd_layout.specs.LayoutStepsOfCalls.{Placement, placement_of, IsStepOf}
use Rattle.nd_layout.specs.RowMajorWalk.{place_at_rank}
use Rattle.nd_layout.specs.declared.layout.Layout.{Layout}
use Rattle.nd_layout.specs.declared.order.halves_of_two_layouts.HalvedLayouts.{HalvedLayouts}

-- Says that two layouts, `one` and `two`, are cut in halves in the same way. The lower halves keep their indexes, and
-- `source` gives the old index of each index of the upper halves. Each index of `one` is in exactly one half and is
-- named once, and the lengths of each half have a smaller sum.
pub record AreHalved (one two lower lower_two upper upper_two : Placement) : Type 0 where
  pub source : List ℕ → List ℕ
  pub low_first : IsStepOf one lower (λ i. i)
  pub low_second : IsStepOf two lower_two (λ i. i)
  pub high_first : IsStepOf one upper source
  pub high_second : IsStepOf two upper_two source
  pub low_alike : lower_two.lengths ≡ lower.lengths
  pub high_alike : upper_two.lengths ≡ upper.lengths
  pub found : (i : List ℕ) → IsTrue (in_box one.lengths i) → IsTrue (in_box lower.lengths i) ⊎ ((j : List ℕ) × IsTrue (in_box upper.lengths j) × (source j ≡ i))
  pub apart : (i j : List ℕ) → IsTrue (in_box lower.lengths i) → IsTrue (in_box upper.lengths j) → ¬ (source j ≡ i)
  pub once : (j k : List ℕ) → IsTrue (in_box upper.lengths j) → IsTrue (in_box upper.lengths k) → source j ≡ source k → j ≡ k
  pub low_smaller : sum lower.lengths < sum one.lengths
  pub high_smaller : sum upper.lengths < sum one.lengths

-- Says that `halves` are the halves of the layouts `one` and `two`, cut in the same way.
abbrev pub HalvesBoth : {D T R : Type 0} {d : dimension.Ghosts D R} {n : axis_count.Ghosts D} {r : stride_list.Ghosts R} {t : stride_list.Ghosts T} → (one two : Layout D T R d n r t) → HalvedLayouts D T R d n r t → Type 0
HalvesBoth one two halves = AreHalved (placement_of one) (placement_of two) (placement_of halves.lower) (placement_of halves.lower_other) (placement_of halves.upper) (placement_of halves.upper_other)

-- Says that `axis` is the first axis longer than 1, and that all axes before it have length 1.
abbrev pub IsFirstLong : List ℕ → ℕ → Type 0
IsFirstLong lengths axis = (axis < length lengths) × (1 < slice_index lengths axis) × ((k : ℕ) → k < axis → slice_index lengths k ≡ 1)

-- Returns the place of the index of this row-major rank.
abbrev pub rank_place : Placement → ℕ → ℤ
rank_place p = place_at_rank p.offset p.lengths p.strides

-- Says that the layout `whole` is cut in two: its places in row-major order are first those of `first`, then those of
-- `second`. The lengths of each part have a smaller sum.
pub record FollowEachOther (whole first second : Placement) : Type 0 where
  pub size : size_of first.lengths + size_of second.lengths ≡ size_of whole.lengths
  pub early : (rank : ℕ) → rank < size_of first.lengths → rank_place first rank ≡ rank_place whole rank
  pub late : (rank : ℕ) → rank < size_of second.lengths → rank_place second rank ≡ rank_place whole (size_of first.lengths + rank)
  pub first_smaller : sum first.lengths < sum whole.lengths
  pub second_smaller : sum second.lengths < sum whole.lengths
