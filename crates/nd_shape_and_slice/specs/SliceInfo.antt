-- Slicing by a list: each element reads one axis of the array, in order, or adds one. A slice keeps its axis, an
-- index takes its axis out, and a new axis has length 1.
use Rattle.std.specs.Prelude.{ℕ, ◌-◌, suc, Bool, true, false, ◌&&◌, nat_lt, nat_le, ℤ, pos, negsuc, List, [], ◌∷◌, Option, None, Some, is_some, if◌then◌else◌}
use Rattle.std.specs.List.{count_by}
use Rattle.std.specs.Option.{unwrap_or}
use Rattle.nd_shape_and_slice.specs.declared.slice_info.SliceInfoElem.{SliceInfoElem}
use Rattle.nd_shape_and_slice.specs.declared.slice_info.SliceInfoElem.TheVariants.{Slice as Part, Index, NewAxis}
use Rattle.nd_shape_and_slice.specs.Slice.{fits_axis, sliced_length, sliced_from}

-- Returns whether the element reads an axis of the array.
abbrev pub reads_axis : SliceInfoElem → Bool
reads_axis (Part start end step) = true
reads_axis (Index k) = true
reads_axis NewAxis = false

-- Returns whether the element leaves an axis in the result.
abbrev pub keeps_axis : SliceInfoElem → Bool
keeps_axis (Part start end step) = true
keeps_axis (Index k) = false
keeps_axis NewAxis = true

-- Returns how many axes of the array the list reads.
abbrev pub axes_read : List SliceInfoElem → ℕ
axes_read es = count_by reads_axis es

-- Returns how many axes the result of the list has.
abbrev pub axes_kept : List SliceInfoElem → ℕ
axes_kept es = count_by keeps_axis es

-- Returns where a coordinate lies on an axis of length `n`, where a negative one counts from the end. It is None for
-- a coordinate outside 0..n.
abbrev pub coordinate_on : ℕ → ℤ → Option ℕ
coordinate_on n (pos k) = if nat_lt k n then Some k else None
coordinate_on n (negsuc k) = if nat_lt k n then Some (n - suc k) else None

-- Returns whether the list reads as many axes as the shape has, and each element fits the axis that it reads.
abbrev pub each_fits : List ℕ → List SliceInfoElem → Bool
each_fits [] [] = true
each_fits (n ∷ ns) [] = false
each_fits [] (Part start end step ∷ es) = false
each_fits (n ∷ ns) (Part start end step ∷ es) = fits_axis n (record { start = start; end = end; step = step }) && each_fits ns es
each_fits [] (Index k ∷ es) = false
each_fits (n ∷ ns) (Index k ∷ es) = is_some (coordinate_on n k) && each_fits ns es
each_fits [] (NewAxis ∷ es) = each_fits [] es
each_fits (n ∷ ns) (NewAxis ∷ es) = each_fits (n ∷ ns) es

-- Returns whether the list fits the shape: each element fits its axis, there is one for each axis, and the result has
-- at most 32 axes.
abbrev pub fits_shape : List ℕ → List SliceInfoElem → Bool
fits_shape ns es = each_fits ns es && nat_le (axes_kept es) 32

-- Returns the shape of the result of the list.
abbrev pub shape_after : List ℕ → List SliceInfoElem → List ℕ
shape_after ns [] = []
shape_after [] (Part start end step ∷ es) = shape_after [] es
shape_after (n ∷ ns) (Part start end step ∷ es) = sliced_length n (record { start = start; end = end; step = step }) ∷ shape_after ns es
shape_after [] (Index k ∷ es) = shape_after [] es
shape_after (n ∷ ns) (Index k ∷ es) = shape_after ns es
shape_after ns (NewAxis ∷ es) = 1 ∷ shape_after ns es

-- Returns the index of the array that an index of the result names.
abbrev pub index_before : List ℕ → List SliceInfoElem → List ℕ → List ℕ
index_before ns [] is = []
index_before [] (Part start end step ∷ es) is = []
index_before (n ∷ ns) (Part start end step ∷ es) [] = []
index_before (n ∷ ns) (Part start end step ∷ es) (i ∷ is) = sliced_from n (record { start = start; end = end; step = step }) i ∷ index_before ns es is
index_before [] (Index k ∷ es) is = []
index_before (n ∷ ns) (Index k ∷ es) is = unwrap_or (coordinate_on n k) 0 ∷ index_before ns es is
index_before ns (NewAxis ∷ es) [] = index_before ns es []
index_before ns (NewAxis ∷ es) (i ∷ is) = index_before ns es is

-- Returns whether an element fits the axis that it would read, where None stands for no axis.
abbrev pub fits_next : Option ℕ → SliceInfoElem → Bool
fits_next None (Part start end step) = false
fits_next (Some n) (Part start end step) = fits_axis n (record { start = start; end = end; step = step })
fits_next None (Index k) = false
fits_next (Some n) (Index k) = is_some (coordinate_on n k)
fits_next None NewAxis = true
fits_next (Some n) NewAxis = true

-- Returns whether the list reads a number of axes that `takes` allows and leaves a number that `gives` allows, each
-- at most 32.
abbrev pub has_counts : (ℕ → Bool) → (ℕ → Bool) → List SliceInfoElem → Bool
has_counts takes gives es = (nat_le (axes_read es) 32 && takes (axes_read es)) && (nat_le (axes_kept es) 32 && gives (axes_kept es))
