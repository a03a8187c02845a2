-- The layout after an array has grown along one axis.
use Rattle.std.specs.Prelude.{ℕ, ◌+◌, ◌≡◌, max, Bool, not, ◌&&◌, ◌||◌, nat_eq, nat_lt, if◌then◌else◌, List, [], ◌∷◌, length, replicate, slice_index, slice_index_or, slice_set, ℤ, pos, nat_abs, int_lt, IsTrue}
use Rattle.std.specs.List.{remove, insert}
use Rattle.nd_shape_and_slice.specs.ShapesAndIndexOrders.{in_box, size_of}
use Rattle.nd_shape_and_slice.specs.PlacesAndOverlaps.{displacement_of}
use Rattle.nd_shape_and_slice.specs.DefaultAndFortranStrides.{row_strides, column_strides_from}
use Rattle.nd_layout.specs.RowMajorWalk.{IsRearranged}

-- Returns the shape after the length of an axis has grown by `added`.
abbrev pub grown_shape : List ℕ → ℕ → ℕ → List ℕ
grown_shape ns axis added = slice_set ns axis (slice_index ns axis + added)

-- Returns the strides of fresh storage that is to grow along an axis. If it is the last axis, the stride of each axis
-- is the product of the earlier lengths. Otherwise they are the row-major strides of the shape with this axis moved
-- to the front, and each axis keeps its own stride; so the stride of this axis is the product of all other lengths.
abbrev pub growing_strides : ℕ → List ℕ → List ℤ
growing_strides axis ns = if nat_eq (axis + 1) (length ns) then column_strides_from 1 ns else insert (row_strides (remove ns axis)) axis (pos (size_of (remove ns axis)))

-- Returns the item that a list has for `axis`, or `default` where there is none, and after it the items of the other
-- axes in their order.
abbrev pub with_axis_first : {X : Type 0} → X → List X → ℕ → List X
with_axis_first default xs axis = slice_index_or xs axis default ∷ remove xs axis

-- Returns the greatest magnitude among the strides of the axes longer than 1, and 0 where there is no such axis.
abbrev pub greatest_step : List ℕ → List ℤ → ℕ
greatest_step [] ss = 0
greatest_step (n ∷ ns) [] = 0
greatest_step (n ∷ ns) (s ∷ ss) = max (if nat_lt 1 n then nat_abs s else 0) (greatest_step ns ss)

-- Returns whether more lengths can't follow at the end of the storage: the axis is longer than 1, and its stride is
-- negative or below the magnitude of another axis longer than 1.
abbrev pub must_move : List ℕ → List ℤ → ℕ → Bool
must_move ns ss axis = nat_lt 1 (slice_index ns axis) && (int_lt (slice_index_or ss axis (pos 0)) (pos 0) || nat_lt (nat_abs (slice_index_or ss axis (pos 0))) (greatest_step (slice_set ns axis 1) ss))

-- How an array grows along an axis. In the case `Empty` the result is empty; in `Unchanged` nothing is added; in
-- `Fresh` the array is empty; in `Moved` the storage holds more than the array, or its elements must move; in `After`
-- the new elements come after the old ones.
pub data GrowthCase : Type 0 where
  Empty : GrowthCase
  Unchanged : GrowthCase
  Fresh : GrowthCase
  Moved : GrowthCase
  After : GrowthCase

-- Returns the first case that applies, in the order of `GrowthCase`, where `full` says that the storage holds only
-- the array.
abbrev pub growth_case : List ℕ → List ℤ → Bool → ℕ → ℕ → GrowthCase
growth_case ns ss full axis added =
    if nat_eq (size_of (grown_shape ns axis added)) 0 then Empty else
    if nat_eq added 0 then Unchanged else
    if nat_eq (size_of ns) 0 then Fresh else
    if not full || must_move ns ss axis then Moved else After

-- Returns the strides after new elements have been put after the old ones: the stride of the axis is the product of
-- all other lengths.
abbrev pub strides_of_appended : List ℕ → List ℤ → ℕ → List ℤ
strides_of_appended ns ss axis = slice_set ss axis (pos (size_of (remove ns axis)))

-- Returns the strides of the result in each case.
abbrev pub strides_in_case : GrowthCase → List ℕ → List ℤ → ℕ → ℕ → List ℤ
strides_in_case Empty ns ss axis added = replicate (length ns) (pos 0)
strides_in_case Unchanged ns ss axis added = ss
strides_in_case Fresh ns ss axis added = growing_strides axis (grown_shape ns axis added)
strides_in_case Moved ns ss axis added = growing_strides axis ns
strides_in_case After ns ss axis added = strides_of_appended ns ss axis

-- Says that the second layout has the places of the first in the order of fresh storage that is to grow along the
-- axis: the index whose displacement there is k has rank k in the second layout.
pub record IsInGrowingOrder (axis : ℕ) (offset : ℕ) (ns : List ℕ) (ss : List ℤ) (start : ℕ) (ms : List ℕ) (ts : List ℤ) : Type 0 where
  pub order : IsRearranged offset ns ss start ms ts
  pub size : size_of ms ≡ size_of ns
  pub ranked : (i : List ℕ) → IsTrue (in_box ns i) → displacement_of (growing_strides axis ns) i ≡ pos (order.rank_of i)
