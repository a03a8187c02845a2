-- Slices and indexes made of ranges and of numbers.
use Rattle.std.specs.Prelude.{ℕ, zero, suc, ◌^◌, ◌-◌, nat_lt, nat_eq, ℤ, pos, negsuc, Option, None, Some, if◌then◌else◌}
use Rattle.nd_shape_and_slice.specs.declared.slice.Slice.{Slice}
use Rattle.nd_shape_and_slice.specs.declared.slice_info.SliceInfoElem.{SliceInfoElem}
use Rattle.nd_shape_and_slice.specs.declared.slice_info.SliceInfoElem.TheVariants.{Slice as Part}

-- Returns the slice with these bounds and step 1.
abbrev pub slice_between : ℤ → Option ℤ → Slice
slice_between from end = record { start = from; end = end; step = pos 1 }

-- Returns a slice as an element of a list of slices.
abbrev pub element_of : Slice → SliceInfoElem
element_of s = Part s.start s.end s.step

-- Returns a number as a bound. A number from 2 ^ 63 on becomes less by 2 ^ 64, and so counts from the end.
abbrev pub bound_of : ℕ → ℤ
bound_of n = if nat_lt n (2 ^ 63) then pos n else negsuc (2 ^ 64 - 1 - n)

-- Returns the end bound of a slice whose last coordinate is the given one. For -1, the last coordinate of the axis,
-- it is None; for the largest `isize` it is the least one, which lies on no axis.
abbrev pub end_after : ℤ → Option ℤ
end_after (pos k) = Some (if nat_eq k (2 ^ 63 - 1) then negsuc (2 ^ 63 - 1) else pos (suc k))
end_after (negsuc zero) = None
end_after (negsuc (suc k)) = Some (negsuc k)
