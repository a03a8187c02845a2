-- How an append without broadcast ends: what it leaves where it is done, and where memory was refused.
use Rattle.std.specs.Prelude.{ℕ, ◌≡◌, ◌<◌, false, List, length, slice_get, slice_index}
use Rattle.nd_shape_and_slice.specs.declared.dimension.Dimension as dimension
use Rattle.nd_shape_and_slice.specs.declared.dimension.AxisCount as axis_count
use Rattle.nd_shape_and_slice.specs.declared.dimension.StrideList as stride_list
use Rattle.nd_shape_and_slice.specs.PlacesAndOverlaps.{IsSeparated}
use Rattle.nd_shape_and_slice.specs.ShapesAndIndexOrders.{size_of, HasCheckedSize}
use Rattle.nd_layout.specs.GrowthAlongAxis.{must_move}
use Rattle.nd_layout.specs.LayoutStepsOfCalls.{Placement}
use Rattle.nd_elements.specs.declared.storage.Data as data_trait
use Rattle.nd_elements.specs.declared.storage.OwnedRepr.{OwnedRepr}
use Rattle.nd_elements.specs.LackOfMemory.{MayLackForClone}
use Rattle.nd_elements.specs.ShapeAndElements.{Meaning}
use Rattle.nd_elements.specs.StoragePlaces.{HoldsAll}
use Rattle.nd_array_core.specs.declared.base.array.ArrayBase.{ArrayBase}
use Rattle.nd_array_core.specs.declared.base.array_error.ArrayError.TheVariants.{NoMemory}
use Rattle.nd_array_core.specs.ConcatenationAndSplit.{concatenated, concatenated_shape}
use Rattle.nd_array_core.specs.ArrayMeaning.{meaning_of}
use Rattle.nd_array_core.specs.growth.Append.{IsAlikeOnOtherAxes}
use Rattle.nd_array_core.specs.growth.StorageOfAppend.{BecomesReady, GoesOn, IsGrownBy, IsLeft, IsReadyAlong, IsReadyFor, KeepsRoom}

-- Says that an array of shape `ms` can be appended to one of shape `ns` along `axis` without broadcast, and that the
-- shape of both together has a checked size.
pub record ComesAsItIs (ns ms : List ℕ) (axis : ℕ) : Type 0 where
  pub axis_exists : axis < length ns
  pub other_axes_agree : IsAlikeOnOtherAxes ns ms axis
  pub size_checked : HasCheckedSize (concatenated_shape ns ms axis)

-- Says that the layout `l` has elements, that `items` holds just these, each at a place of its own, and that `axis` can
-- grow at their end without a move.
pub record GrowsInPlace {A : Type 0} (axis : ℕ) (l : Placement) (items : List A) : Type 0 where
  pub some : 0 < size_of l.lengths
  pub holds : HoldsAll (slice_get items) l.offset l.lengths l.strides
  pub own_places : IsSeparated l.lengths l.strides
  pub full : length items ≡ size_of l.lengths
  pub moves_nothing : must_move l.lengths l.strides axis ≡ false

module _ {D T A R : Type 0} {s : data_trait.Ghosts (OwnedRepr A) A} {d : dimension.Ghosts D R} {n : axis_count.Ghosts D} {r : stride_list.Ghosts R} {t : stride_list.Ghosts T} where
  -- Says that `b` is `a` after an array with the shape and elements `m` has been appended along `axis`.
  pub record Appended (axis : ℕ) (m : Meaning A) (a b : ArrayBase (OwnedRepr A) D T A R s d n r t) : Type 0 where
    pub joined : meaning_of b ≡ concatenated axis (meaning_of a) m
    pub laid : IsGrownBy axis (slice_index m.shape axis) a b
    pub becomes_ready : BecomesReady axis (slice_index m.shape axis) a b
    pub goes_on : IsReadyAlong axis a → GoesOn axis a b
    pub room : KeepsRoom axis (slice_index m.shape axis) a b

  -- Says that `b` is `a` after an append of `m` along `axis` was refused for want of memory.
  pub record AppendLacksMemory (is_infallible : A → Type 0) (axis : ℕ) (m : Meaning A) (a b : ArrayBase (OwnedRepr A) D T A R s d n r t) : Type 0 where
    pub some : 0 < size_of m.shape
    pub meaning_kept : meaning_of b ≡ meaning_of a
    pub array_left : IsLeft axis a b NoMemory
    pub room : KeepsRoom axis (slice_index m.shape axis) a b
    pub enough : IsReadyFor axis (slice_index m.shape axis) a → MayLackForClone is_infallible m.at
