-- Slicing by a list in two passes: first each axis becomes what its element says, where an indexed axis keeps length
-- 1; then the indexed axes are taken out and new axes of length 1 are put in.
use Rattle.std.specs.Prelude.{ℕ, suc, Bool, true, false, ◌&&◌, nat_eq, List, [], ◌∷◌, slice_index}
use Rattle.std.specs.Option.{unwrap_or}
use Rattle.nd_shape_and_slice.specs.declared.slice_info.SliceInfoElem.{SliceInfoElem}
use Rattle.nd_shape_and_slice.specs.declared.slice_info.SliceInfoElem.TheVariants.{Slice as Part, Index, NewAxis}
use Rattle.nd_shape_and_slice.specs.Slice.{sliced_length, sliced_from, sliced_shape, sliced_index}
use Rattle.nd_shape_and_slice.specs.SliceInfo.{coordinate_on}
use Rattle.nd_shape_and_slice.specs.LayoutIndexMaps.{collapsed_shape, collapsed_index}

-- Returns the shape after the first pass, where an indexed axis has length 1.
abbrev pub collapsed_after : List ℕ → List SliceInfoElem → List ℕ
collapsed_after ns [] = ns
collapsed_after [] (Part start end step ∷ es) = []
collapsed_after (n ∷ ns) (Part start end step ∷ es) = sliced_length n (record { start = start; end = end; step = step }) ∷ collapsed_after ns es
collapsed_after [] (Index k ∷ es) = []
collapsed_after (n ∷ ns) (Index k ∷ es) = 1 ∷ collapsed_after ns es
collapsed_after ns (NewAxis ∷ es) = collapsed_after ns es

-- Returns the old index that an index after the first pass names.
abbrev pub collapsed_before : List ℕ → List SliceInfoElem → List ℕ → List ℕ
collapsed_before ns [] is = is
collapsed_before [] (Part start end step ∷ es) is = []
collapsed_before (n ∷ ns) (Part start end step ∷ es) [] = []
collapsed_before (n ∷ ns) (Part start end step ∷ es) (i ∷ is) = sliced_from n (record { start = start; end = end; step = step }) i ∷ collapsed_before ns es is
collapsed_before [] (Index k ∷ es) is = []
collapsed_before (n ∷ ns) (Index k ∷ es) [] = []
collapsed_before (n ∷ ns) (Index k ∷ es) (i ∷ is) = unwrap_or (coordinate_on n k) 0 ∷ collapsed_before ns es is
collapsed_before ns (NewAxis ∷ es) is = collapsed_before ns es is

-- Returns the shape after one element has been applied to axis `a`, where an indexed axis stays with length 1.
abbrev pub shape_with : List ℕ → ℕ → SliceInfoElem → List ℕ
shape_with ns a (Part start end step) = sliced_shape ns a (record { start = start; end = end; step = step })
shape_with ns a (Index k) = collapsed_shape ns a
shape_with ns a NewAxis = ns

-- Returns the old index that the index `i` names after one element has been applied to axis `a`, where an indexed
-- axis stays with length 1.
abbrev pub index_with : List ℕ → ℕ → SliceInfoElem → List ℕ → List ℕ
index_with ns a (Part start end step) i = sliced_index ns a (record { start = start; end = end; step = step }) i
index_with ns a (Index k) i = collapsed_index a (unwrap_or (coordinate_on (slice_index ns a) k) 0) i
index_with ns a NewAxis i = i

-- Returns the axis that the next element reads, where this element stands at axis `a`.
abbrev pub next_axis : ℕ → SliceInfoElem → ℕ
next_axis a (Part start end step) = suc a
next_axis a (Index k) = suc a
next_axis a NewAxis = a

-- Does the second pass on a list with one item for each axis: the items of indexed axes are taken out, and `d` is put
-- in for each new axis.
abbrev pub kept_items : {A : Type 0} → A → List SliceInfoElem → List A → List A
kept_items d [] xs = []
kept_items d (Part start end step ∷ es) [] = kept_items d es []
kept_items d (Part start end step ∷ es) (x ∷ xs) = x ∷ kept_items d es xs
kept_items d (Index k ∷ es) [] = kept_items d es []
kept_items d (Index k ∷ es) (x ∷ xs) = kept_items d es xs
kept_items d (NewAxis ∷ es) xs = d ∷ kept_items d es xs

-- Returns the index before the second pass: it has 0 on each indexed axis, and the coordinates of new axes are
-- dropped.
abbrev pub put_back : List SliceInfoElem → List ℕ → List ℕ
put_back [] is = []
put_back (Part start end step ∷ es) [] = []
put_back (Part start end step ∷ es) (i ∷ is) = i ∷ put_back es is
put_back (Index k ∷ es) is = 0 ∷ put_back es is
put_back (NewAxis ∷ es) [] = []
put_back (NewAxis ∷ es) (i ∷ is) = put_back es is

-- Returns whether the shape has as many axes as the list reads, and length 1 on each indexed one.
abbrev pub indexed_ones : List SliceInfoElem → List ℕ → Bool
indexed_ones [] [] = true
indexed_ones [] (m ∷ ms) = false
indexed_ones (Part start end step ∷ es) [] = false
indexed_ones (Part start end step ∷ es) (m ∷ ms) = indexed_ones es ms
indexed_ones (Index k ∷ es) [] = false
indexed_ones (Index k ∷ es) (m ∷ ms) = nat_eq m 1 && indexed_ones es ms
indexed_ones (NewAxis ∷ es) ms = indexed_ones es ms
