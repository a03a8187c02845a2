-- Slices of one axis: which slices fit, how long the result is, and the old coordinate that each new one names.
use Rattle.std.specs.Prelude.{ℕ, suc, ◌+◌, ◌-◌, ◌*◌, ◌/◌, Bool, ◌&&◌, not, nat_lt, nat_le, nat_eq, ℤ, pos, negsuc, nat_abs, Option, None, Some, is_some, if◌then◌else◌, max, List, slice_set, slice_index}
use Rattle.std.specs.Option.{unwrap_or}
use Rattle.nd_shape_and_slice.specs.declared.slice.Slice.{Slice}

-- Returns where a bound lies on an axis of length `n`, where a negative bound counts from the end. It is None for a
-- bound outside 0..=n.
abbrev pub bound_on : ℕ → ℤ → Option ℕ
bound_on n (pos k) = if nat_le k n then Some k else None
bound_on n (negsuc k) = if nat_lt k n then Some (n - suc k) else None

-- Returns where the end of a slice lies on an axis of length `n`. A missing end is the end of the axis.
abbrev pub end_on : ℕ → Option ℤ → Option ℕ
end_on n None = Some n
end_on n (Some e) = bound_on n e

-- Returns whether the slice fits an axis of length `n`: its step isn't 0, and both bounds lie in 0..=n.
abbrev pub fits_axis : ℕ → Slice → Bool
fits_axis n s = not (nat_eq (nat_abs s.step) 0) && (is_some (bound_on n s.start) && is_some (end_on n s.end))

-- Returns the first coordinate of the range that a fitting slice steps over.
abbrev pub low_of : ℕ → Slice → ℕ
low_of n s = unwrap_or (bound_on n s.start) 0

-- Returns the coordinate after the last of the range that a fitting slice steps over. An end below the start counts
-- as the start.
abbrev pub high_of : ℕ → Slice → ℕ
high_of n s = max (low_of n s) (unwrap_or (end_on n s.end) 0)

-- Returns the quotient rounded up.
abbrev pub quotient_up : ℕ → ℕ → ℕ
quotient_up a b = (a + (b - 1)) / b

-- Returns the length of an axis of length `n` after the slice.
abbrev pub sliced_length : ℕ → Slice → ℕ
sliced_length n s = quotient_up (high_of n s - low_of n s) (nat_abs s.step)

-- Returns the old coordinate that the new coordinate `i` names in a range from `low` to before `high`: a positive
-- step goes up from `low`, a negative one goes down from `high - 1`.
abbrev pub stepped_from : ℕ → ℕ → ℤ → ℕ → ℕ
stepped_from low high (pos step) i = low + i * step
stepped_from low high (negsuc step) i = high - 1 - i * suc step

-- Returns the old coordinate that the new coordinate `i` names after the slice of an axis of length `n`.
abbrev pub sliced_from : ℕ → Slice → ℕ → ℕ
sliced_from n s i = stepped_from (low_of n s) (high_of n s) s.step i

-- Returns the shape after axis `a` is sliced.
abbrev pub sliced_shape : List ℕ → ℕ → Slice → List ℕ
sliced_shape ns a s = slice_set ns a (sliced_length (slice_index ns a) s)

-- Returns the old index that the index `i` names after axis `a` is sliced.
abbrev pub sliced_index : List ℕ → ℕ → Slice → List ℕ → List ℕ
sliced_index ns a s i = slice_set i a (sliced_from (slice_index ns a) s (slice_index i a))
