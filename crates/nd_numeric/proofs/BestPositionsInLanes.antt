-- The coordinates of the first best elements of lanes, from what each lane shows.
use Rattle.std.proofs.Common.{◌≡◌, ◌∙◌, refl, sym, subst, ℕ, Bool, true, List, [], ◌∷◌, Option, Some, slice_index, arith, true≢false}
use Rattle.std.specs.List.{fold}
use Rattle.nd_shape_and_slice.specs.ShapesAndIndexOrders.{in_box}
use Rattle.nd_shape_and_slice.specs.LayoutIndexMaps.{indexed_shape}
use Rattle.nd_array_core.specs.ConcatenationAndSplit.{row_major_elements}
use Rattle.nd_array_core.specs.ArrayMeaning.{Meaning}
use Rattle.nd_array_core.specs.Prelude.{IsMappedBy}
use Rattle.nd_array_core.specs.along.AxisFolds.{lane_elements}
use Rattle.nd_array_core.specs.along.AxisMaps.{lane_of, lanes_of}
use Rattle.nd_array_core.proofs.along_lemmas.LanesAsViews.{lane_listed}
use Rattle.nd_numeric.specs.IndexOfLeastAndGreatest.{better_by, rank_of_best, IsBestPosition, IsFirstBestOf}
use Rattle.nd_numeric.proofs.FoldKeepingTheBest.{IsStrict, beaten_all_before, fold_finds}

module _ {A : Type 0} (beats : A → A → Bool) (strict : IsStrict beats) where
  -- the position of the best item is that of the first best one
  position : (xs : List A) → IsBestPosition beats xs (rank_of_best beats xs)
  position [] = ((λ h. refl, λ h. refl), tt)
  position (x ∷ xs) =
      let left = fold (better_by beats) x xs in
      let found = fold_finds beats strict x xs in (
        (λ h. absurd (true≢false h), λ h. absurd (omega (arith, h))),
        (left, subst (IsFirstBestOf beats (x ∷ xs) left) (sym (beaten_all_before beats strict (x ∷ xs) left found.0 found.1)) found.1),
      )

  -- what a map of the lanes to these positions gives
  pub best_positions : (m : Meaning A) (axis : ℕ) (shown : List ℕ → Option (Option ℕ)) → IsMappedBy (λ lane. rank_of_best beats (row_major_elements lane)) (lanes_of m axis).at shown
      → (i : List ℕ) → in_box (indexed_shape m.shape axis) i ≡ true → (best : Option ℕ) × (shown i ≡ Some best) × IsBestPosition beats (lane_elements m.at axis (slice_index m.shape axis) i) best
  best_positions m axis shown are i h =
      let best = rank_of_best beats (row_major_elements (lane_of m axis i)) in
      (best, are i ∙ rw h refl, subst (λ xs. IsBestPosition beats xs best) (lane_listed m axis i) (position (row_major_elements (lane_of m axis i))))
