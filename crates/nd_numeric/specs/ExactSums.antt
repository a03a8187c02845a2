-- Sums of numbers without overflow.
use Rattle.std.specs.Prelude.{◌+ℤ◌, ℤ, List, pos}
use Rattle.std.specs.List.{fold}
use Rattle.nd_shape_and_slice.specs.declared.dimension.Dimension as dimension
use Rattle.nd_shape_and_slice.specs.declared.dimension.AxisCount as axis_count
use Rattle.nd_shape_and_slice.specs.declared.dimension.StrideList as stride_list
use Rattle.nd_array_core.specs.declared.base.array.ArrayBase.{ArrayBase}
use Rattle.nd_array_core.specs.Data as data_trait
use Rattle.nd_array_core.specs.ConcatenationAndSplit.{row_major_elements}
use Rattle.nd_array_core.specs.ArrayMeaning.{meaning_of}

-- Returns the sum of the items of a list as whole numbers without bounds.
abbrev pub exact_sum : {A : Type 0} → (A → ℤ) → List A → ℤ
exact_sum value = fold (λ sum x. sum +ℤ value x) (pos 0)

module _ {S D T A R : Type 0} {s : data_trait.Ghosts S A} {d : dimension.Ghosts D R} {n : axis_count.Ghosts D} {r : stride_list.Ghosts R} {t : stride_list.Ghosts T} where
  -- Returns the sum of all elements of `a` as whole numbers without bounds.
  abbrev pub exact_sum_of : (A → ℤ) → ArrayBase S D T A R s d n r t → ℤ
  exact_sum_of value a = exact_sum value (row_major_elements (meaning_of a))
