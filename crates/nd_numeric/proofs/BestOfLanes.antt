-- What a choice of two leaves of a lane, from what it leaves so far.
use Rattle.std.proofs.Common.{◌≡◌, ◌∙◌, refl, ap, ℕ, List, [], ◌∷◌, Option, Some, None, slice_index}
use Rattle.std.specs.List.{fold, reduce}
use Rattle.nd_shape_and_slice.specs.LayoutIndexMaps.{indexed_shape}
use Rattle.nd_array_core.specs.ArrayMeaning.{inside}
use Rattle.nd_array_core.specs.along.AxisFolds.{AreFoldedBy, lane_elements}
use Rattle.nd_numeric.specs.LeastAndGreatest.{end_so_far}

module _ {A : Type 0} (choice : A → A → A) where
  end_from : (x : A) (xs : List A) → fold (end_so_far choice) (Some x) xs ≡ Some (fold choice x xs)
  end_from x [] = refl
  end_from x (y ∷ xs) = end_from (choice x y) xs

  end_of : (xs : List A) → fold (end_so_far choice) None xs ≡ reduce choice xs
  end_of [] = refl
  end_of (x ∷ xs) = end_from x xs

  pub ends_are : (shape : List ℕ) (at : List ℕ → Option A) (axis : ℕ) (ends : List ℕ → Option (Option A)) → AreFoldedBy (end_so_far choice) shape at axis None ends → (i : List ℕ) → ends i ≡ inside (indexed_shape shape axis) i (Some (reduce choice (lane_elements at axis (slice_index shape axis) i)))
  ends_are shape at axis ends are i =
      are i ∙ ap (λ o. inside (indexed_shape shape axis) i (Some o)) (end_of (lane_elements at axis (slice_index shape axis) i))
