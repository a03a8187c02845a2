-- What each call makes of a list of strides, and how far strides reach to each side.
use Rattle.std.specs.Prelude.{ℕ, suc, ◌+◌, ◌-◌, ◌*◌, ◌^◌, ◌<◌, ◌≡◌, nat_lt, nat_le, nat_eq, List, [], ◌∷◌, ◌++◌, drop, replicate, map, slice_set, slice_index, slice_index_or, ℤ, pos, negsuc, ◌+ℤ◌, ◌*ℤ◌, nat_abs, if◌then◌else◌}
use Rattle.std.specs.List.{remove}
use Rattle.std.proofs.Math.IntN.{neg_ℤ}
use Rattle.nd_shape_and_slice.specs.declared.slice.Slice.{Slice}
use Rattle.nd_shape_and_slice.specs.Slice.{sliced_length}
use Rattle.nd_shape_and_slice.specs.LayoutIndexMaps.{diagonal_length}
use Rattle.nd_shape_and_slice.specs.Broadcast.{axes_added}
use Rattle.nd_shape_and_slice.specs.Squeeze.{stays, kept_of, goes_at}
use Rattle.nd_shape_and_slice.specs.declared.slice_info.SliceInfoElem.{SliceInfoElem}
use Rattle.nd_shape_and_slice.specs.declared.slice_info.SliceInfoElem.TheVariants.{Slice as Part, Index, NewAxis}

-- Returns the strides in the order of `axes`: at position k stands the stride of the k-th of the axes.
abbrev pub permuted_strides : List ℕ → List ℤ → List ℤ
permuted_strides axes ss = map (λ a. slice_index_or ss a (pos 0)) axes

-- Returns how far the axes of positive stride lead up from the offset.
abbrev pub reach_up : List ℕ → List ℤ → ℕ
reach_up [] ss = 0
reach_up (n ∷ ns) [] = 0
reach_up (n ∷ ns) (pos s ∷ ss) = (n - 1) * s + reach_up ns ss
reach_up (n ∷ ns) (negsuc s ∷ ss) = reach_up ns ss

-- Returns how far the axes of negative stride lead down from the offset.
abbrev pub reach_down : List ℕ → List ℤ → ℕ
reach_down [] ss = 0
reach_down (n ∷ ns) [] = 0
reach_down (n ∷ ns) (pos s ∷ ss) = reach_down ns ss
reach_down (n ∷ ns) (negsuc s ∷ ss) = (n - 1) * suc s + reach_down ns ss

-- Returns the sum of all strides.
abbrev pub sum_of : List ℤ → ℤ
sum_of [] = pos 0
sum_of (s ∷ ss) = s +ℤ sum_of ss

-- Returns the coordinate at which a slice from `low` to before `high` begins: the last one if its step is negative.
abbrev pub stepped_start : ℕ → ℕ → ℤ → ℕ
stepped_start low high (pos step) = low
stepped_start low high (negsuc step) = high - 1

-- Returns the opposite of a stride, or 0 if its magnitude is 2 ^ 63 or more.
abbrev pub opposite_stride : ℤ → ℤ
opposite_stride stride = if nat_lt (nat_abs stride) (2 ^ 63) then neg_ℤ stride else pos 0

-- Returns the strides after axis `a` is inverted.
abbrev pub inverted_strides : List ℤ → ℕ → List ℤ
inverted_strides ss a = slice_set ss a (opposite_stride (slice_index_or ss a (pos 0)))

-- Returns the stride of an axis after a slice that leaves the length `len`: 0 if `len` is at most 1.
abbrev pub stepped_stride : ℕ → ℤ → ℤ → ℤ
stepped_stride len stride step = if nat_le len 1 then pos 0 else stride *ℤ step

-- Says that an `isize` holds the stride and that it isn't the least `isize`.
abbrev pub FitsStride : ℤ → Type 0
FitsStride z = nat_abs z < 2 ^ 63

-- Returns the strides after axis `a` is sliced: its stride is multiplied by the step.
abbrev pub sliced_strides : List ℕ → List ℤ → ℕ → Slice → List ℤ
sliced_strides ns ss a s = slice_set ss a (stepped_stride (sliced_length (slice_index ns a) s) (slice_index_or ss a (pos 0)) s.step)

-- Returns the strides after each axis has been cut by its slice in the list: each stride is multiplied by the step of
-- its slice.
abbrev pub each_sliced_strides : List ℕ → List ℤ → List Slice → List ℤ
each_sliced_strides ns ss [] = ss
each_sliced_strides [] ss (y ∷ ys) = []
each_sliced_strides (n ∷ ns) [] (y ∷ ys) = []
each_sliced_strides (n ∷ ns) (s ∷ ss) (y ∷ ys) = stepped_stride (sliced_length n y) s y.step ∷ each_sliced_strides ns ss ys

-- Returns the strides after slicing by a list: a slice multiplies the stride of its axis, an index takes its axis
-- out, and a new axis has stride 0.
abbrev pub strides_after : List ℕ → List ℤ → List SliceInfoElem → List ℤ
strides_after ns ss [] = []
strides_after [] ss (Part start end step ∷ es) = strides_after [] ss es
strides_after (n ∷ ns) [] (Part start end step ∷ es) = strides_after ns [] es
strides_after (n ∷ ns) (s ∷ ss) (Part start end step ∷ es) = stepped_stride (sliced_length n (record { start = start; end = end; step = step })) s step ∷ strides_after ns ss es
strides_after [] ss (Index k ∷ es) = strides_after [] ss es
strides_after (n ∷ ns) [] (Index k ∷ es) = strides_after ns [] es
strides_after (n ∷ ns) (s ∷ ss) (Index k ∷ es) = strides_after ns ss es
strides_after ns ss (NewAxis ∷ es) = pos 0 ∷ strides_after ns ss es

-- Returns the strides after slicing by a list, where an indexed axis stays with length 1 and keeps its stride, and no
-- new axis is put in.
abbrev pub collapsed_strides : List ℕ → List ℤ → List SliceInfoElem → List ℤ
collapsed_strides ns ss [] = ss
collapsed_strides [] ss (Part start end step ∷ es) = []
collapsed_strides (n ∷ ns) [] (Part start end step ∷ es) = []
collapsed_strides (n ∷ ns) (s ∷ ss) (Part start end step ∷ es) = stepped_stride (sliced_length n (record { start = start; end = end; step = step })) s step ∷ collapsed_strides ns ss es
collapsed_strides [] ss (Index k ∷ es) = []
collapsed_strides (n ∷ ns) [] (Index k ∷ es) = []
collapsed_strides (n ∷ ns) (s ∷ ss) (Index k ∷ es) = s ∷ collapsed_strides ns ss es
collapsed_strides ns ss (NewAxis ∷ es) = collapsed_strides ns ss es

-- Returns the strides after a squeeze: those of the axes that stay.
abbrev pub squeezed_strides : List ℕ → List ℤ → List ℤ
squeezed_strides ns ss = kept_of (stays ns) ss

-- Returns the strides after axis `a` is taken out, if it has length 1 and isn't the only axis.
abbrev pub strides_squeezed_at : List ℕ → List ℤ → ℕ → List ℤ
strides_squeezed_at ns ss a = if goes_at ns a then remove ss a else ss

-- Returns the stride of the diagonal: the sum of the strides, or 0 if its length is at most 1.
abbrev pub diagonal_stride : List ℕ → List ℤ → ℤ
diagonal_stride ns ss = if nat_le (diagonal_length ns) 1 then pos 0 else sum_of ss

-- Says that each axis of length 1 has stride 0.
abbrev pub RestsAtOnes : List ℕ → List ℤ → Type 0
RestsAtOnes ns ss = (a : ℕ) → slice_index ns a ≡ 1 → slice_index_or ss a (pos 0) ≡ pos 0

-- Returns the strides after the lengths have grown from `ns` to `ms`: 0 for each axis that has grown.
abbrev pub stretched_strides : List ℕ → List ℤ → List ℕ → List ℤ
stretched_strides [] ss ms = []
stretched_strides (n ∷ ns) [] ms = []
stretched_strides (n ∷ ns) (s ∷ ss) [] = []
stretched_strides (n ∷ ns) (s ∷ ss) (m ∷ ms) = (if nat_eq n m then s else pos 0) ∷ stretched_strides ns ss ms

-- Returns the strides after a broadcast: 0 for each new axis and for each axis that has grown.
abbrev pub broadcast_strides : List ℕ → List ℤ → List ℕ → List ℤ
broadcast_strides from strides to = replicate (axes_added from to) (pos 0) ++ stretched_strides from strides (drop (axes_added from to) to)
