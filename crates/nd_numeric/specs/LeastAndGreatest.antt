-- The least and the greatest element of a list, and of each lane along an axis.
use Rattle.std.specs.Prelude.{◌≡◌, ℕ, List, Option, Some, None, slice_index, if◌then◌else◌}
use Rattle.std.specs.List.{reduce}
use Rattle.std.specs.declared.cmp.Ordering.{Ordering}
use Rattle.std.specs.Ordering.{is_lt, is_gt}
use Rattle.nd_shape_and_slice.specs.LayoutIndexMaps.{indexed_shape}
use Rattle.nd_shape_and_slice.specs.declared.dimension.Dimension as dimension
use Rattle.nd_shape_and_slice.specs.declared.dimension.AxisCount as axis_count
use Rattle.nd_shape_and_slice.specs.declared.dimension.StrideList as stride_list
use Rattle.nd_array_core.specs.declared.base.array.ArrayBase.{ArrayBase}
use Rattle.nd_array_core.specs.Data as data_trait
use Rattle.nd_array_core.specs.ArrayMeaning.{shape_of, element_at, inside}
use Rattle.nd_array_core.specs.along.AxisFolds.{lane_elements}

module _ {A : Type 0} (order : A → A → Ordering) where
  -- Returns the lesser of two elements, and the first where they are equal.
  abbrev pub lesser_by : A → A → A
  lesser_by x y = if is_lt (order y x) then y else x

  -- Returns the greater of two elements, and the first where they are equal.
  abbrev pub greater_by : A → A → A
  greater_by x y = if is_gt (order y x) then y else x

-- Returns the element that is chosen of the one so far and the next one, and the next one where there is none so far.
abbrev pub end_so_far : {A : Type 0} → (A → A → A) → Option A → A → Option A
end_so_far choice None x = Some x
end_so_far choice (Some y) x = Some (choice y x)

module _ {S D T A R : Type 0} {s : data_trait.Ghosts S A} {d : dimension.Ghosts D R} {n : axis_count.Ghosts D} {r : stride_list.Ghosts R} {t : stride_list.Ghosts T} where
  -- Says that `result` has, at each index of the other axes, the element that is left of the lane along `axis` when
  -- `choice` picks one of two in turn, and `None` where the lane is empty.
  abbrev pub AreLaneEnds : (A → A → A) → ArrayBase S D T A R s d n r t → ℕ → (List ℕ → Option (Option A)) → Type 0
  AreLaneEnds choice a axis result =
      (i : List ℕ) → result i ≡ inside (indexed_shape (shape_of a) axis) i (Some (reduce choice (lane_elements (element_at a) axis (slice_index (shape_of a) axis) i)))
