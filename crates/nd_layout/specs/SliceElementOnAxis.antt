-- What one element of a list of slices makes of the axis that it reads: a slice shortens it, an index keeps one
-- coordinate of it, and a new axis has length 1 and stride 0.
use Rattle.std.specs.Prelude.{ℕ, ◌<◌, List, slice_index, slice_index_or, slice_set, ℤ, pos, ◌+ℤ◌, ◌*ℤ◌, IsTrue}
use Rattle.std.specs.Option.{unwrap_or}
use Rattle.nd_shape_and_slice.specs.declared.slice_info.SliceInfoElem.{SliceInfoElem}
use Rattle.nd_shape_and_slice.specs.declared.slice_info.SliceInfoElem.TheVariants.{Slice as Part, Index, NewAxis}
use Rattle.nd_shape_and_slice.specs.Slice.{sliced_length, sliced_from}
use Rattle.nd_shape_and_slice.specs.SliceInfo.{coordinate_on}
use Rattle.nd_layout.specs.ValidMemoryPlaces.{is_place}
use Rattle.nd_layout.specs.StridesAfterLayoutCalls.{stepped_stride}

-- Returns the length that the element leaves of an axis of length `n`, and 1 for an index or a new axis.
abbrev pub length_by : ℕ → SliceInfoElem → ℕ
length_by n (Part start end step) = sliced_length n (record { start = start; end = end; step = step })
length_by n (Index k) = 1
length_by n NewAxis = 1

-- Returns the coordinate of an axis of length `n` that the new coordinate 0 names.
abbrev pub start_by : ℕ → SliceInfoElem → ℕ
start_by n (Part start end step) = sliced_from n (record { start = start; end = end; step = step }) 0
start_by n (Index k) = unwrap_or (coordinate_on n k) 0
start_by n NewAxis = 0

-- Returns the stride that the element gives to an axis of length `n` and stride `s`.
abbrev pub stride_by : ℕ → ℤ → SliceInfoElem → ℤ
stride_by n s (Part start end step) = stepped_stride (sliced_length n (record { start = start; end = end; step = step })) s step
stride_by n s (Index k) = s
stride_by n s NewAxis = pos 0

-- Returns the strides after one element has been applied to axis `a`, where an indexed axis stays and a new one isn't
-- yet put in.
abbrev pub strides_with : List ℕ → List ℤ → ℕ → SliceInfoElem → List ℤ
strides_with ns ss a (Part start end step) = slice_set ss a (stride_by (slice_index ns a) (slice_index_or ss a (pos 0)) (Part start end step))
strides_with ns ss a (Index k) = ss
strides_with ns ss a NewAxis = ss

-- Says that each coordinate of an axis of length `n` and stride `s` leads from the offset to a place.
abbrev pub LeadsToPlaces : ℕ → ℕ → ℤ → Type 0
LeadsToPlaces offset n s = (c : ℕ) → c < n → IsTrue (is_place (pos offset +ℤ (pos c *ℤ s)))
