-- The lanes of an axis, in row-major order of the other axes.
use Rattle.std.specs.Prelude.{◌-◌, ◌<◌, ◌≤◌, ℕ, List, length, map}
use Rattle.std.specs.List.{range_with_len}
use Rattle.nd_shape_and_slice.specs.LayoutIndexMaps.{indexed_shape}
use Rattle.nd_shape_and_slice.specs.ShapesAndIndexOrders.{index_at, size_of}
use Rattle.nd_array_core.specs.ArrayMeaning.{Meaning}
use Rattle.nd_array_core.specs.along.AxisMaps.{lane_of}
use Rattle.nd_iter.specs.IteratedElements.{listing}

module _ {A : Type 0} (m : Meaning A) (axis : ℕ) where
  -- The lane of a number: the one at the index of that row-major rank on the other axes.
  abbrev pub numbered_lane : ℕ → Meaning A
  numbered_lane k = lane_of m axis (index_at (indexed_shape m.shape axis) k)

  -- The lanes of the numbers from one up to another.
  abbrev pub lanes_left : ℕ → ℕ → List (List ℕ × List A)
  lanes_left from to = map (λ k. listing (numbered_lane k)) (range_with_len from (to - from))

  -- All of them.
  abbrev pub lanes_along : List (List ℕ × List A)
  lanes_along = lanes_left 0 (size_of (indexed_shape m.shape axis))

-- The lanes from one up to another are lanes of an axis that is there.
pub record AreLanes (ns : List ℕ) (axis from to : ℕ) : Type 0 where
  pub is_axis : axis < length ns
  pub ahead : from ≤ to
  pub ends_within : to ≤ size_of (indexed_shape ns axis)
