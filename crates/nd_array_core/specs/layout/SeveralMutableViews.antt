-- Several mutable views of one array at a time: which places they have, and what the array is after they have ended.
use Rattle.std.specs.Prelude.{ℕ, Bool, List, ◌||◌}
use Rattle.nd_shape_and_slice.specs.declared.dimension.Dimension as dimension
use Rattle.nd_shape_and_slice.specs.declared.dimension.AxisCount as axis_count
use Rattle.nd_shape_and_slice.specs.declared.dimension.StrideList as stride_list
use Rattle.nd_shape_and_slice.specs.declared.slice_info.SliceInfoElem.{SliceInfoElem}
use Rattle.nd_region.specs.RegionPlaces.{names}
use Rattle.nd_layout.specs.LayoutStepsOfCalls.{Placement, placement_of}
use Rattle.nd_elements.specs.declared.storage.Data as data_trait
use Rattle.nd_array_core.specs.declared.base.array.ArrayBase.{ArrayBase}
use Rattle.nd_array_core.specs.layout.ArrayAfterMutableView.{array_with_part}
use Rattle.nd_array_core.specs.scoped.TasksOnParts.{KeepsButSlices, KeepsButThreeSlices, KeepsButFourSlices}

-- Returns whether a place is that of an index of the placement `l`.
unfoldable pub named_of : Placement → ℕ → Bool
named_of l = names l.offset l.lengths l.strides

-- Returns whether the place `p` passes at least one of two tests.
unfoldable pub pass_either : (ℕ → Bool) → (ℕ → Bool) → ℕ → Bool
pass_either f g p = f p || g p

-- Returns whether a place passes at least one of three tests.
abbrev pub pass_any_of_three : (ℕ → Bool) → (ℕ → Bool) → (ℕ → Bool) → ℕ → Bool
pass_any_of_three f g h = pass_either f (pass_either g h)

-- Returns whether a place passes at least one of four tests.
abbrev pub pass_any_of_four : (ℕ → Bool) → (ℕ → Bool) → (ℕ → Bool) → (ℕ → Bool) → ℕ → Bool
pass_any_of_four f g h j = pass_either f (pass_any_of_three g h j)

module _ {S D A T R : Type 0} {s : data_trait.Ghosts S A} {d : dimension.Ghosts D R} {n : axis_count.Ghosts D} {r : stride_list.Ghosts R} {t : stride_list.Ghosts T} where
  -- Returns whether a place is that of an index of the array `v`.
  abbrev pub places_of : ArrayBase S D T A R s d n r t → ℕ → Bool
  places_of v = named_of (placement_of v.layout)

  -- Returns the array `a` after mutable views have ended whose places pass `test`, with the elements `ws` at these
  -- places.
  abbrev pub left_at : ArrayBase S D T A R s d n r t → (ℕ → Bool) → List A → ArrayBase S D T A R s d n r t
  left_at a test ws = array_with_part s.refilled s.items a test ws

  -- Says that, whatever elements `ws` two mutable views end with, `left ws` has the element of `old` at each index that
  -- neither of the lists of slices `one` and `two` selects.
  abbrev pub LeavesButSlices : ArrayBase S D T A R s d n r t → (List A → ArrayBase S D T A R s d n r t) → List SliceInfoElem → List SliceInfoElem → Type 0
  LeavesButSlices old left one two = (ws : List A) → KeepsButSlices old (left ws) one two

  -- Says that, whatever elements `ws` three mutable views end with, `left ws` has the element of `old` at each index
  -- that none of three lists of slices selects.
  abbrev pub LeavesButThreeSlices : ArrayBase S D T A R s d n r t → (List A → ArrayBase S D T A R s d n r t) → List SliceInfoElem → List SliceInfoElem → List SliceInfoElem → Type 0
  LeavesButThreeSlices old left one two three = (ws : List A) → KeepsButThreeSlices old (left ws) one two three

  -- Says that, whatever elements `ws` four mutable views end with, `left ws` has the element of `old` at each index
  -- that none of four lists of slices selects.
  abbrev pub LeavesButFourSlices : ArrayBase S D T A R s d n r t → (List A → ArrayBase S D T A R s d n r t) → List SliceInfoElem → List SliceInfoElem → List SliceInfoElem → List SliceInfoElem → Type 0
  LeavesButFourSlices old left one two three four = (ws : List A) → KeepsButFourSlices old (left ws) one two three four
