-- Where elements lie: an offset, lengths and strides, as one value.
use Rattle.std.specs.Prelude.{ℕ, ◌≡◌, ◌-◌, ◌<◌, List, ℤ}
use Rattle.nd_shape_and_slice.specs.ShapesAndIndexOrders.{size_of}
use Rattle.nd_shape_and_slice.specs.PlacesAndOverlaps.{IsSeparated}
use Rattle.nd_shape_and_slice.specs.declared.dimension.Dimension as dimension
use Rattle.nd_shape_and_slice.specs.declared.dimension.AxisCount as axis_count
use Rattle.nd_shape_and_slice.specs.declared.dimension.StrideList as stride_list
use Rattle.nd_shape_and_slice.specs.declared.slice.Slice.{Slice}
use Rattle.nd_shape_and_slice.specs.declared.slice_info.SliceInfoElem.{SliceInfoElem}
use Rattle.nd_shape_and_slice.specs.declared.axis_descriptions.AxisDescription.{AxisDescription}
use Rattle.nd_shape_and_slice.specs.Broadcast.{broadcast_index}
use Rattle.nd_shape_and_slice.specs.AxisDescriptions.{axes_from}
use Rattle.nd_shape_and_slice.specs.SliceEachAxis.{each_sliced_shape, each_sliced_index, AnswersAre}
use Rattle.nd_shape_and_slice.specs.LayoutIndexMaps.{diagonal_index}
use Rattle.nd_shape_and_slice.specs.Slice.{sliced_index}
use Rattle.nd_shape_and_slice.specs.SliceInfo.{index_before}
use Rattle.nd_shape_and_slice.specs.SlicingInTwoPasses.{collapsed_before, index_with}
use Rattle.nd_shape_and_slice.specs.Squeeze.{squeezed_shape, squeezed_index, shape_squeezed_at, index_squeezed_at}
use Rattle.nd_layout.specs.SliceElementOnAxis.{strides_with}
use Rattle.nd_layout.specs.GrowthAlongAxis.{IsInGrowingOrder}
use Rattle.nd_layout.specs.MergedAxes.{merged_strides, merged_index}
use Rattle.nd_layout.specs.RanksAndReshapeStrides.{IsRun}
use Rattle.nd_layout.specs.ValidLayoutsAndSteps.{IsStep, IsViewStep}
use Rattle.nd_layout.specs.StridesAfterLayoutCalls.{broadcast_strides, sliced_strides, strides_after, collapsed_strides, each_sliced_strides, squeezed_strides, strides_squeezed_at, reach_down}
use Rattle.nd_layout.specs.RowMajorWalk.{IsOneLane, IsRearranged, IsRejoined}
use Rattle.nd_layout.specs.declared.layout.Layout.{Layout}

-- An offset with the length and the stride of each axis.
pub record Placement : Type 0 where
  pub offset : ℕ
  pub lengths : List ℕ
  pub strides : List ℤ

abbrev pub as_placement : ℕ → List ℕ → List ℤ → Placement
as_placement offset lengths strides = record { offset = offset; lengths = lengths; strides = strides }

abbrev pub placement_of : {D T R : Type 0} {d : dimension.Ghosts D R} {n : axis_count.Ghosts D} {r : stride_list.Ghosts R} {t : stride_list.Ghosts T} → Layout D T R d n r t → Placement
placement_of {d = d} {t = t} l = record { offset = l.offset; lengths = d.lengths l.dim; strides = t.strides_of l.strides }

-- Says that a layout step leads from `old` to `new`, and that each index of `new` names the index of `old` that
-- `source` gives.
abbrev pub IsStepOf : Placement → Placement → (List ℕ → List ℕ) → Type 0
IsStepOf old new source = IsStep old.offset old.lengths old.strides new.offset new.lengths new.strides source

-- Says that each index of `new` names, by `source`, an index of `old` that has the same place. Several indexes may
-- share a place.
abbrev pub IsViewStepOf : Placement → Placement → (List ℕ → List ℕ) → Type 0
IsViewStepOf old new source = IsViewStep old.offset old.lengths old.strides new.offset new.lengths new.strides source

-- Says that the strides of `new` are those of `old` broadcast to the lengths of `new`.
abbrev pub HasBroadcastStrides : Placement → Placement → Type 0
HasBroadcastStrides old new = new.strides ≡ broadcast_strides old.lengths old.strides new.lengths

-- Says that each index of `new` names the index of `old` that broadcasting gives it, at the same place.
abbrev pub IsBroadcastStep : Placement → Placement → Type 0
IsBroadcastStep old new = IsViewStepOf old new (broadcast_index old.lengths new.lengths)

-- Says that the strides of `new` are those of `old` after the axis is sliced.
abbrev pub HasSlicedStrides : Placement → Placement → ℕ → Slice → Type 0
HasSlicedStrides old new axis slice = new.strides ≡ sliced_strides old.lengths old.strides axis slice

-- Says that the strides of `new` are those of `old` after slicing by the list.
abbrev pub HasListStrides : Placement → Placement → List SliceInfoElem → Type 0
HasListStrides old new list = new.strides ≡ strides_after old.lengths old.strides list

-- Says that the strides of `new` are those of `old` after slicing by the list, where an indexed axis stays with
-- length 1 and no new axis is put in.
abbrev pub HasCollapsedStrides : Placement → Placement → List SliceInfoElem → Type 0
HasCollapsedStrides old new list = new.strides ≡ collapsed_strides old.lengths old.strides list

-- Says that slicing the axis leads from `old` to `new`.
abbrev pub IsSlicedStep : Placement → Placement → ℕ → Slice → Type 0
IsSlicedStep old new axis slice = IsStepOf old new (sliced_index old.lengths axis slice)

-- Says that slicing by the list leads from `old` to `new`.
abbrev pub IsListStep : Placement → Placement → List SliceInfoElem → Type 0
IsListStep old new list = IsStepOf old new (index_before old.lengths list)

-- Says that slicing by the list leads from `old` to `new`, where an indexed axis stays with length 1 and no new axis
-- is put in.
abbrev pub IsCollapsedStep : Placement → Placement → List SliceInfoElem → Type 0
IsCollapsedStep old new list = IsStepOf old new (collapsed_before old.lengths list)

-- Says that the strides of `new` are those of `old` after one element of a list is applied to the axis, where an
-- indexed axis stays.
abbrev pub HasElementStrides : Placement → Placement → ℕ → SliceInfoElem → Type 0
HasElementStrides old new axis element = new.strides ≡ strides_with old.lengths old.strides axis element

-- Says that applying one element of a list to the axis leads from `old` to `new`, where an indexed axis stays.
abbrev pub IsElementStep : Placement → Placement → ℕ → SliceInfoElem → Type 0
IsElementStep old new axis element = IsStepOf old new (index_with old.lengths axis element)

-- Says that `new` is the diagonal of `old`.
abbrev pub IsDiagonalStep : Placement → Placement → Type 0
IsDiagonalStep old new = IsStepOf old new (diagonal_index old.lengths)

-- Says that `new` is `old` with each axis cut by the slice that the closure in the state `f` returns for it, where
-- the closure is called with axis 0 first.
abbrev pub IsEachSliced : {F : Type 0} → (F → AxisDescription → Slice → F → Type 0) → F → Placement → Placement → Type 0
IsEachSliced {F} step f old new =
    (slices : List Slice)
    × (last : F)
    × AnswersAre step f (axes_from 0 old.lengths old.strides) slices last
    × (new.lengths ≡ each_sliced_shape old.lengths slices)
    × IsStepOf old new (each_sliced_index old.lengths slices)
    × (new.strides ≡ each_sliced_strides old.lengths old.strides slices)

-- Says that the strides of `new` are those of `old` after the axis `take` is merged into the axis `into`.
abbrev pub HasMergedStrides : Placement → Placement → ℕ → ℕ → Type 0
HasMergedStrides old new take into = new.strides ≡ merged_strides old.lengths old.strides take into

-- Says that merging the axis `take` into the axis `into` leads from `old` to `new`.
abbrev pub IsMergedStep : Placement → Placement → ℕ → ℕ → Type 0
IsMergedStep old new take into = IsStepOf old new (merged_index old.lengths take into)

-- Says that the lengths of `new` are those of `old` without the axes that a squeeze takes out.
abbrev pub HasSqueezedLengths : Placement → Placement → Type 0
HasSqueezedLengths old new = new.lengths ≡ squeezed_shape old.lengths

-- Says that the strides of `new` are those of `old` without the axes that a squeeze takes out.
abbrev pub HasSqueezedStrides : Placement → Placement → Type 0
HasSqueezedStrides old new = new.strides ≡ squeezed_strides old.lengths old.strides

-- Says that taking out the axes of length 1, as a squeeze does, leads from `old` to `new`.
abbrev pub IsSqueezedStep : Placement → Placement → Type 0
IsSqueezedStep old new = IsStepOf old new (squeezed_index old.lengths)

-- Says that the lengths of `new` are those of `old` without the axis, if it has length 1 and isn't the only one.
abbrev pub HasLengthsSqueezedAt : Placement → Placement → ℕ → Type 0
HasLengthsSqueezedAt old new axis = new.lengths ≡ shape_squeezed_at old.lengths axis

-- Says that the strides of `new` are those of `old` without the axis, if it has length 1 and isn't the only one.
abbrev pub HasStridesSqueezedAt : Placement → Placement → ℕ → Type 0
HasStridesSqueezedAt old new axis = new.strides ≡ strides_squeezed_at old.lengths old.strides axis

-- Says that taking out the axis, if it has length 1 and isn't the only one, leads from `old` to `new`.
abbrev pub IsStepSqueezedAt : Placement → Placement → ℕ → Type 0
IsStepSqueezedAt old new axis = IsStepOf old new (index_squeezed_at old.lengths axis)

-- Says that `new` has the places of `old`, each as often, in an order of its own.
abbrev pub IsRearrangedOf : Placement → Placement → Type 0
IsRearrangedOf old new = IsRearranged old.offset old.lengths old.strides new.offset new.lengths new.strides

-- Says that `new` has the same displacements in the same row-major order as `old`, and the same span.
abbrev pub IsRejoinedOf : Placement → Placement → Type 0
IsRejoinedOf old new = IsRejoined old.lengths old.strides new.lengths new.strides

-- Says that there are elements, and that their places are a run.
abbrev pub HasRunOfPlaces : Placement → Type 0
HasRunOfPlaces l = (0 < size_of l.lengths) × IsRun l.lengths l.strides

-- Says that `new` begins at the lowest place of `old`, if `old` has elements and their places are a run.
abbrev pub BeginsLowest : Placement → Placement → Type 0
BeginsLowest old new = 0 < size_of old.lengths → IsRun old.lengths old.strides → new.offset ≡ old.offset - reach_down old.lengths old.strides

-- Says that the last axis of `new` has one coordinate for each element of `old` and stride 1, and that its other axes
-- have length 1, if `old` has elements and their places are a run.
abbrev pub IsLineOfRun : Placement → Placement → Type 0
IsLineOfRun old new = 0 < size_of old.lengths → IsRun old.lengths old.strides → IsOneLane (size_of old.lengths) new.lengths new.strides

-- Says that the strides are separated if there are elements.
abbrev pub KeepsApart : Placement → Type 0
KeepsApart l = 0 < size_of l.lengths → IsSeparated l.lengths l.strides

-- Says that `new` has the places of `old` in the row-major order of fresh storage that is to grow along the axis.
abbrev pub IsGrowingOrderOf : ℕ → Placement → Placement → Type 0
IsGrowingOrderOf axis old new = IsInGrowingOrder axis old.offset old.lengths old.strides new.offset new.lengths new.strides
