-- Worked examples of slices and of lists of slices: the definitions, read against rows that were worked out by hand.
-- Each is closed by computing.
use Rattle.nd_shape_and_slice.proofs.NamesFromOtherCrates.{ℕ, ◌≡◌, ◌-◌, ◌^◌, true, false, List, [], ◌∷◌, map, length, replicate, None, Some, pos, negsuc, refl}
use Rattle.nd_shape_and_slice.specs.declared.slice.Slice.{Slice}
use Rattle.nd_shape_and_slice.specs.declared.slice_info.SliceInfoElem.{SliceInfoElem}
use Rattle.nd_shape_and_slice.specs.declared.slice_info.SliceInfoElem.TheVariants.{Slice as Part, Index, NewAxis}
use Rattle.nd_shape_and_slice.specs.Slice.{fits_axis, sliced_length, sliced_from, sliced_shape, sliced_index}
use Rattle.nd_shape_and_slice.specs.SliceInfo.{axes_read, axes_kept, coordinate_on, fits_shape, shape_after, index_before}
use Rattle.nd_shape_and_slice.specs.CommonElementsOfSlices.{Intersect}

-- what a slice makes of an axis: the old coordinates that the new ones name, in order
record Names (n : ℕ) (s : Slice) (old new : List ℕ) : Type 0 where
  pub fits : fits_axis n s ≡ true
  pub len : sliced_length n s ≡ length new
  pub named : map (sliced_from n s) old ≡ new

up_by_1 : Names 10 (record { start = pos 2; end = Some (pos 5); step = pos 1 }) (0 ∷ 1 ∷ 2 ∷ []) (2 ∷ 3 ∷ 4 ∷ [])
up_by_1 = record { fits = refl; len = refl; named = refl }

up_by_2 : Names 10 (record { start = pos 0; end = Some (pos 6); step = pos 2 }) (0 ∷ 1 ∷ 2 ∷ []) (0 ∷ 2 ∷ 4 ∷ [])
up_by_2 = record { fits = refl; len = refl; named = refl }

-- a negative step goes down from the last coordinate of the range
down_by_2 : Names 6 (record { start = pos 0; end = Some (pos 6); step = negsuc 1 }) (0 ∷ 1 ∷ 2 ∷ []) (5 ∷ 3 ∷ 1 ∷ [])
down_by_2 = record { fits = refl; len = refl; named = refl }

down_by_1 : Names 3 (record { start = pos 0; end = Some (pos 3); step = negsuc 0 }) (0 ∷ 1 ∷ 2 ∷ []) (2 ∷ 1 ∷ 0 ∷ [])
down_by_1 = record { fits = refl; len = refl; named = refl }

-- and so the first of these steps, and then the second, name 1, 3 and 5
down_by_2_then_1 : map (λ i. sliced_from 6 (record { start = pos 0; end = Some (pos 6); step = negsuc 1 }) (sliced_from 3 (record { start = pos 0; end = Some (pos 3); step = negsuc 0 }) i)) (0 ∷ 1 ∷ 2 ∷ []) ≡ 1 ∷ 3 ∷ 5 ∷ []
down_by_2_then_1 = refl

-- the last coordinate is named however the range begins
down_by_4 : Names 6 (record { start = pos 1; end = Some (pos 6); step = negsuc 3 }) (0 ∷ 1 ∷ []) (5 ∷ 1 ∷ [])
down_by_4 = record { fits = refl; len = refl; named = refl }

-- a negative bound counts from the end, and a missing end is the end
last_3 : Names 6 (record { start = negsuc 2; end = None; step = pos 1 }) (0 ∷ 1 ∷ 2 ∷ []) (3 ∷ 4 ∷ 5 ∷ [])
last_3 = record { fits = refl; len = refl; named = refl }

all_but_last : Names 4 (record { start = pos 0; end = Some (negsuc 0); step = pos 1 }) (0 ∷ 1 ∷ 2 ∷ []) (0 ∷ 1 ∷ 2 ∷ [])
all_but_last = record { fits = refl; len = refl; named = refl }

-- an end below the start counts as the start
end_below_start : Names 6 (record { start = pos 4; end = Some (pos 2); step = pos 1 }) [] []
end_below_start = record { fits = refl; len = refl; named = refl }

at_the_end : Names 6 (record { start = pos 6; end = None; step = negsuc 0 }) [] []
at_the_end = record { fits = refl; len = refl; named = refl }

-- the longest axis and the least step: the last coordinate alone
longest : Names (2 ^ 63 - 1) (record { start = pos 0; end = None; step = negsuc (2 ^ 63 - 1) }) (0 ∷ []) ((2 ^ 63 - 2) ∷ [])
longest = record { fits = refl; len = refl; named = refl }

-- what doesn't fit: the step 0, and a bound past the end or before the first
step_0 : fits_axis 6 (record { start = pos 0; end = Some (pos 6); step = pos 0 }) ≡ false
step_0 = refl

start_past : fits_axis 6 (record { start = pos 7; end = None; step = pos 1 }) ≡ false
start_past = refl

start_before : fits_axis 6 (record { start = negsuc 6; end = None; step = pos 1 }) ≡ false
start_before = refl

end_past : fits_axis 6 (record { start = pos 0; end = Some (pos 7); step = pos 1 }) ≡ false
end_past = refl

end_before : fits_axis 6 (record { start = pos 0; end = Some (negsuc 6); step = negsuc 0 }) ≡ false
end_before = refl

least_bounds : fits_axis 6 (record { start = negsuc 5; end = Some (negsuc 5); step = pos 1 }) ≡ true
least_bounds = refl

-- one axis of several
columns_0_and_1 : sliced_shape (2 ∷ 3 ∷ []) 1 (record { start = pos 0; end = Some (pos 2); step = pos 1 }) ≡ 2 ∷ 2 ∷ []
columns_0_and_1 = refl

rows_back : sliced_index (6 ∷ 4 ∷ []) 0 (record { start = pos 0; end = Some (pos 6); step = negsuc 1 }) (2 ∷ 3 ∷ []) ≡ 1 ∷ 3 ∷ []
rows_back = refl

-- coordinates of an index
coordinates : map (coordinate_on 6) (pos 0 ∷ pos 5 ∷ pos 6 ∷ negsuc 0 ∷ negsuc 5 ∷ negsuc 6 ∷ []) ≡ Some 0 ∷ Some 5 ∷ None ∷ Some 5 ∷ Some 0 ∷ None ∷ []
coordinates = refl

-- a list with each kind of element: every second of the first axis from the back, the last of the second, a new axis,
-- and the last three of the third
abbrev each_kind : List SliceInfoElem
each_kind = Part (pos 0) (Some (pos 6)) (negsuc 1) ∷ Index (negsuc 0) ∷ NewAxis ∷ Part (negsuc 2) None (pos 1) ∷ []

each_kind_read : axes_read each_kind ≡ 3
each_kind_read = refl

each_kind_kept : axes_kept each_kind ≡ 3
each_kind_kept = refl

each_kind_fits : fits_shape (6 ∷ 4 ∷ 5 ∷ []) each_kind ≡ true
each_kind_fits = refl

each_kind_shape : shape_after (6 ∷ 4 ∷ 5 ∷ []) each_kind ≡ 3 ∷ 1 ∷ 3 ∷ []
each_kind_shape = refl

each_kind_first : index_before (6 ∷ 4 ∷ 5 ∷ []) each_kind (0 ∷ 0 ∷ 0 ∷ []) ≡ 5 ∷ 3 ∷ 2 ∷ []
each_kind_first = refl

each_kind_last : index_before (6 ∷ 4 ∷ 5 ∷ []) each_kind (2 ∷ 0 ∷ 2 ∷ []) ≡ 1 ∷ 3 ∷ 4 ∷ []
each_kind_last = refl

-- as many elements that read an axis as axes, and each has to fit its own
axis_too_many : fits_shape (6 ∷ 4 ∷ 5 ∷ 2 ∷ []) each_kind ≡ false
axis_too_many = refl

axis_too_few : fits_shape (6 ∷ 4 ∷ []) each_kind ≡ false
axis_too_few = refl

axis_too_short : fits_shape (6 ∷ 4 ∷ 2 ∷ []) each_kind ≡ false
axis_too_short = refl

axis_to_index_empty : fits_shape (6 ∷ 0 ∷ 5 ∷ []) each_kind ≡ false
axis_to_index_empty = refl

-- an index alone leaves no axis, and names one element
abbrev index_alone : List SliceInfoElem
index_alone = Index (pos 2) ∷ []

index_alone_shape : shape_after (4 ∷ []) index_alone ≡ []
index_alone_shape = refl

index_alone_names : index_before (4 ∷ []) index_alone [] ≡ 2 ∷ []
index_alone_names = refl

-- new axes around an axis that is read: their coordinates are forgotten
new_axes_around : index_before (4 ∷ []) (NewAxis ∷ Part (pos 1) None (pos 2) ∷ NewAxis ∷ []) (0 ∷ 1 ∷ 0 ∷ []) ≡ 3 ∷ []
new_axes_around = refl

-- at most 32 axes are left
new_axes_32 : fits_shape [] (replicate 32 NewAxis) ≡ true
new_axes_32 = refl

new_axes_33 : fits_shape [] (replicate 33 NewAxis) ≡ false
new_axes_33 = refl

new_axes_32_and_index : fits_shape (4 ∷ []) (Index (pos 0) ∷ replicate 32 NewAxis) ≡ true
new_axes_32_and_index = refl

-- on six elements 1..6 by 4 and 2..6 by 3 both name the one at 5; the last element is named by a step that is too long for
-- a second one, and by its index
both_name_5 : Intersect (6 ∷ []) (Part (pos 1) (Some (pos 6)) (pos 4) ∷ []) (Part (pos 2) (Some (pos 6)) (pos 3) ∷ [])
both_name_5 = record {
  common = 5 ∷ [];
  in_first = record { new = 1 ∷ []; in_result = refl; stands_for = refl };
  in_second = record { new = 1 ∷ []; in_result = refl; stands_for = refl };
}

last_of_both : Intersect (2 ^ 62 ∷ []) (Part (pos 0) None (negsuc (2 ^ 63 - 1)) ∷ []) (Index (negsuc 0) ∷ NewAxis ∷ [])
last_of_both = record {
  common = (2 ^ 62 - 1) ∷ [];
  in_first = record { new = 0 ∷ []; in_result = refl; stands_for = refl };
  in_second = record { new = 0 ∷ []; in_result = refl; stands_for = refl };
}
