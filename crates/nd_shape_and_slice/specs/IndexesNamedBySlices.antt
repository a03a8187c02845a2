-- Which indexes of an array a list of slices names, as a test on the coordinates.
use Rattle.std.specs.Prelude.{ℕ, zero, suc, ◌-◌, ◌%◌, Bool, true, false, ◌&&◌, nat_lt, nat_le, nat_eq, ℤ, pos, negsuc, Option, None, Some, List, [], ◌∷◌}
use Rattle.nd_shape_and_slice.specs.declared.slice.Slice.{Slice}
use Rattle.nd_shape_and_slice.specs.declared.slice_info.SliceInfoElem.{SliceInfoElem}
use Rattle.nd_shape_and_slice.specs.declared.slice_info.SliceInfoElem.TheVariants.{Slice as Part, Index, NewAxis}
use Rattle.nd_shape_and_slice.specs.Slice.{low_of, high_of}
use Rattle.nd_shape_and_slice.specs.SliceInfo.{coordinate_on}

-- Returns whether the distance is a whole number of steps of this size. A step of size 0 leads only to distance 0.
abbrev pub is_multiple : ℕ → ℕ → Bool
is_multiple zero distance = nat_eq distance 0
is_multiple (suc zero) distance = true
is_multiple (suc (suc k)) distance = nat_eq (distance % suc (suc k)) 0

-- Returns whether steps lead to the coordinate `c`: a positive step goes up from `low`, a negative one goes down from
-- `high - 1`.
abbrev pub on_step : ℤ → ℕ → ℕ → ℕ → Bool
on_step (pos p) low high c = is_multiple p (c - low)
on_step (negsuc d) low high c = is_multiple (suc d) (high - 1 - c)

-- Returns whether the slice names the coordinate `c` of an axis of length `n`.
abbrev pub slice_names : ℕ → Slice → ℕ → Bool
slice_names n s c = (nat_le (low_of n s) c && nat_lt c (high_of n s)) && on_step s.step (low_of n s) (high_of n s) c

-- Returns whether the coordinate that an index element keeps exists and equals `c`.
abbrev pub lies_at : Option ℕ → ℕ → Bool
lies_at None c = false
lies_at (Some k) c = nat_eq c k

-- Returns whether the list of slices names the index of an array of this shape, axis by axis.
abbrev pub names_index : List ℕ → List SliceInfoElem → List ℕ → Bool
names_index ns [] is = true
names_index [] (Part start end step ∷ es) is = false
names_index (n ∷ ns) (Part start end step ∷ es) [] = false
names_index (n ∷ ns) (Part start end step ∷ es) (i ∷ is) = slice_names n (record { start = start; end = end; step = step }) i && names_index ns es is
names_index [] (Index k ∷ es) is = false
names_index (n ∷ ns) (Index k ∷ es) [] = false
names_index (n ∷ ns) (Index k ∷ es) (i ∷ is) = lies_at (coordinate_on n k) i && names_index ns es is
names_index [] (NewAxis ∷ es) is = names_index [] es is
names_index (n ∷ ns) (NewAxis ∷ es) is = names_index (n ∷ ns) es is
