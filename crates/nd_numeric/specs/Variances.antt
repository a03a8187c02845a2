-- Variances: how far numbers lie from their mean.
use Rattle.std.specs.Prelude.{◌≡◌, ◌-◌, ℕ, Bool, List, Option, Some, slice_index, if◌then◌else◌}
use Rattle.std.specs.List.{fold}
use Rattle.nd_shape_and_slice.specs.ShapesAndIndexOrders.{size_of}
use Rattle.nd_shape_and_slice.specs.LayoutIndexMaps.{indexed_shape}
use Rattle.nd_shape_and_slice.specs.declared.dimension.Dimension as dimension
use Rattle.nd_shape_and_slice.specs.declared.dimension.AxisCount as axis_count
use Rattle.nd_shape_and_slice.specs.declared.dimension.StrideList as stride_list
use Rattle.nd_array_core.specs.declared.base.array.ArrayBase.{ArrayBase}
use Rattle.nd_array_core.specs.Data as data_trait
use Rattle.nd_array_core.specs.ConcatenationAndSplit.{row_major_elements}
use Rattle.nd_array_core.specs.ArrayMeaning.{Meaning, meaning_of, shape_of, element_at, inside}
use Rattle.nd_array_core.specs.along.AxisFolds.{lane_elements}

-- Returns what `root` gives of `v` where `is_root` is true, and otherwise `v`.
abbrev pub root_if : {A : Type 0} → (A → A) → Bool → A → A
root_if root is_root v = if is_root then root v else v

module _ {A : Type 0} (plus minus times : A → A → A) where
  -- Returns `total` plus the square of the distance of `x` from `mean`.
  abbrev pub with_square : A → A → A → A
  with_square mean total x = plus total (times (minus x mean) (minus x mean))

  module _ (over : A → A → A) (nought : A) (of_count : ℕ → A) where
    -- Returns the variance of the `count` numbers of a list: the squares of their distances from their mean, added to
    -- `nought` one after another, divided by `count` less `ddof`. The mean is the sum of the numbers divided by `count`.
    abbrev pub variance : ℕ → ℕ → List A → A
    variance ddof count xs = over (fold (with_square (over (fold plus nought xs) (of_count count))) nought xs) (of_count (count - ddof))

    -- Returns the variance of all elements of what an array shows.
    abbrev pub variance_in : ℕ → Meaning A → A
    variance_in ddof m = variance ddof (size_of m.shape) (row_major_elements m)

    module _ {S D T R : Type 0} {s : data_trait.Ghosts S A} {d : dimension.Ghosts D R} {n : axis_count.Ghosts D} {r : stride_list.Ghosts R} {t : stride_list.Ghosts T} where
      -- Returns the variance of all elements of `a`.
      abbrev pub variance_of_all : ℕ → ArrayBase S D T A R s d n r t → A
      variance_of_all ddof a = variance_in ddof (meaning_of a)

      -- Says that `result` has, at each index of the other axes, what `h` makes of the variance of the lane along
      -- `axis` there.
      abbrev pub AreOfVariances : (A → A) → ℕ → ArrayBase S D T A R s d n r t → ℕ → (List ℕ → Option A) → Type 0
      AreOfVariances h ddof a axis result =
          (i : List ℕ) → result i ≡ inside (indexed_shape (shape_of a) axis) i (Some (h (variance ddof (slice_index (shape_of a) axis) (lane_elements (element_at a) axis (slice_index (shape_of a) axis) i))))

      -- Says that `v` is the variance of all elements of `a`.
      abbrev pub IsVarianceOf : ℕ → ArrayBase S D T A R s d n r t → A → Type 0
      IsVarianceOf ddof a v = v ≡ variance_of_all ddof a

      -- Says that `v` is what `root` gives of the variance of all elements of `a`.
      abbrev pub IsRootOfVariance : (A → A) → ℕ → ArrayBase S D T A R s d n r t → A → Type 0
      IsRootOfVariance root ddof a v = v ≡ root (variance_of_all ddof a)

      module _ {Y E U X : Type 0} {y : data_trait.Ghosts Y A} {e : dimension.Ghosts E X} {k : axis_count.Ghosts E} {x : stride_list.Ghosts X} {u : stride_list.Ghosts U} where
        -- Says that `c` has, at each index of the other axes, the variance of the lane of `a` along `axis` there.
        abbrev pub HasVariances : ℕ → ArrayBase S D T A R s d n r t → ℕ → ArrayBase Y E U A X y e k x u → Type 0
        HasVariances ddof a axis c = AreOfVariances (λ v. v) ddof a axis (element_at c)

        -- Says that `c` has, at each index of the other axes, what `root` gives of the variance of the lane of `a`
        -- along `axis` there.
        abbrev pub HasRoots : (A → A) → ℕ → ArrayBase S D T A R s d n r t → ℕ → ArrayBase Y E U A X y e k x u → Type 0
        HasRoots root ddof a axis c = AreOfVariances root ddof a axis (element_at c)
