-- Means of lanes, from their sums.
use Rattle.std.proofs.Common.{◌≡◌, ◌∙◌, refl, ap, ℕ, Bool, true, false, List, Option, Some, None, slice_index, if◌then◌else◌}
use Rattle.std.specs.List.{fold}
use Rattle.std.specs.Option.{option_map}
use Rattle.nd_shape_and_slice.specs.ShapesAndIndexOrders.{in_box}
use Rattle.nd_shape_and_slice.specs.LayoutIndexMaps.{indexed_shape}
use Rattle.nd_array_core.specs.ArrayMeaning.{inside}
use Rattle.nd_array_core.specs.along.AxisFolds.{AreFoldedBy, lane_elements}

-- a function of what stands in a box stands in the box
pub mapped_if : {A B : Type 0} (h : A → B) (b : Bool) (x : A) → option_map h (if b then Some x else None) ≡ (if b then Some (h x) else None)
mapped_if h true x = refl
mapped_if h false x = refl

-- each sum over the length is the mean
pub means_are : {A : Type 0} (plus over : A → A → A) (nought : A) (of_count : ℕ → A) (shape : List ℕ) (at : List ℕ → Option A) (axis count : ℕ) (length : A) (sums means : List ℕ → Option A) → count ≡ slice_index shape axis → length ≡ of_count count → AreFoldedBy plus shape at axis nought sums → ((i : List ℕ) → means i ≡ option_map (λ x. over x length) (sums i)) → (i : List ℕ) → means i ≡ inside (indexed_shape shape axis) i (Some (over (fold plus nought (lane_elements at axis (slice_index shape axis) i)) (of_count (slice_index shape axis))))
means_are plus over nought of_count shape at axis count length sums means long is_length are_sums are_means i =
    let sum = fold plus nought (lane_elements at axis (slice_index shape axis) i) in
    are_means i
    ∙ ap (option_map (λ x. over x length)) (are_sums i)
    ∙ mapped_if (λ x. over x length) (in_box (indexed_shape shape axis) i) sum
    ∙ ap (λ n. inside (indexed_shape shape axis) i (Some (over sum n))) (is_length ∙ ap of_count long)
