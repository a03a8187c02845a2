-- Variances of lanes, from what each lane shows.
use Rattle.std.proofs.Common.{◌≡◌, ◌∙◌, ap, ℕ, arith, List, [], ◌∷◌, Option, Some, slice_index}
use Rattle.nd_shape_and_slice.specs.ShapesAndIndexOrders.{in_box, size_of}
use Rattle.nd_shape_and_slice.specs.LayoutIndexMaps.{indexed_shape}
use Rattle.nd_array_core.specs.ConcatenationAndSplit.{row_major_elements}
use Rattle.nd_array_core.specs.ArrayMeaning.{Meaning, inside}
use Rattle.nd_array_core.specs.Prelude.{IsMappedBy}
use Rattle.nd_array_core.specs.along.AxisFolds.{lane_elements}
use Rattle.nd_array_core.specs.along.AxisMaps.{lane_of, lanes_of}
use Rattle.nd_array_core.proofs.along_lemmas.LanesAsViews.{lane_listed}
use Rattle.nd_numeric.specs.Variances.{variance, variance_in}
use Rattle.nd_numeric.proofs.LaneMeans.{mapped_if}

-- the number of elements along one axis is its length
size_of_line : (n : ℕ) → size_of (n ∷ []) ≡ n
size_of_line n = omega arith

module _ {A : Type 0} (plus minus times over : A → A → A) (nought : A) (of_count : ℕ → A) (ddof : ℕ) (m : Meaning A) (axis : ℕ) where
  -- the variance of a lane, by its elements
  abbrev of_lane : List ℕ → A
  of_lane i = variance plus minus times over nought of_count ddof (slice_index m.shape axis) (lane_elements m.at axis (slice_index m.shape axis) i)

  listed : (i : List ℕ) → variance_in plus minus times over nought of_count ddof (lane_of m axis i) ≡ of_lane i
  listed i =
      ap (λ n. variance plus minus times over nought of_count ddof n (row_major_elements (lane_of m axis i))) (size_of_line (slice_index m.shape axis))
      ∙ ap (variance plus minus times over nought of_count ddof (slice_index m.shape axis)) (lane_listed m axis i)

  -- what a function makes of the variance of each lane
  pub of_lanes : (h : A → A) (shown : List ℕ → Option A) → IsMappedBy (λ lane. h (variance_in plus minus times over nought of_count ddof lane)) (lanes_of m axis).at shown → (i : List ℕ) → shown i ≡ inside (indexed_shape m.shape axis) i (Some (h (of_lane i)))
  of_lanes h shown are i =
      are i
      ∙ mapped_if (λ lane. h (variance_in plus minus times over nought of_count ddof lane)) (in_box (indexed_shape m.shape axis) i) (lane_of m axis i)
      ∙ ap (λ x. inside (indexed_shape m.shape axis) i (Some (h x))) (listed i)
