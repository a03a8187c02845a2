-- The first best element of an array, from the list of its elements.
use Rattle.std.proofs.Common.{◌≡◌, ◌∙◌, ◌↔◌, refl, sym, ap, subst, ℕ, ◌<◌, Bool, true, false, List, [], ◌∷◌, length, Option, Some, None, IfSome, slice_get, arith, true≢false}
use Rattle.std.specs.Prelude.{IsNone}
use Rattle.std.specs.List.{fold}
use Rattle.std.proofs.lemmas.Option.{slice_get_within}
use Rattle.nd_shape_and_slice.specs.ShapesAndIndexOrders.{in_box, index_at, row_rank, size_of}
use Rattle.nd_shape_and_slice.proofs.RowMajorNumberInverse.{in_box-index_at, row_rank-index_at}
use Rattle.nd_array_core.specs.ConcatenationAndSplit.{row_major_elements}
use Rattle.nd_array_core.specs.LayoutLaws.{NothingOutside}
use Rattle.nd_array_core.specs.ArrayMeaning.{Meaning}
use Rattle.nd_array_core.specs.reshape.ReshapeLaws.{ListsByRank}
use Rattle.nd_numeric.specs.IndexOfLeastAndGreatest.{better_by, rank_of_best, IsFirstBest, IsFirstBestOf}
use Rattle.nd_numeric.proofs.FoldKeepingTheBest.{IsStrict, beaten_all_before, fold_finds}

-- the rank of the best is None for an empty list alone
none_of_list : {A : Type 0} (beats : A → A → Bool) (xs : List A) (result : Option ℕ) → result ≡ rank_of_best beats xs → IsNone result ↔ (length xs ≡ 0)
none_of_list beats [] None is = (λ h. refl, λ h. refl)
none_of_list beats [] (Some k) is = absurd cc
none_of_list beats (x ∷ xs) None is = absurd cc
none_of_list beats (x ∷ xs) (Some k) is = (λ h. absurd (true≢false h), λ h. absurd (omega (arith, h)))

module _ {A : Type 0} (m : Meaning A) (count : length (row_major_elements m) ≡ size_of m.shape) (listed : ListsByRank m) (outside : NothingOutside m) where
  -- what holds of the item of a rank holds of the element of its index
  at_index : (P : A → Type 0) (j : List ℕ) → IfSome (slice_get (row_major_elements m) (row_rank m.shape j)) P → IfSome (m.at j) P
  at_index P j h = by_box (in_box m.shape j) refl
    where
      by_box : (b : Bool) → in_box m.shape j ≡ b → IfSome (m.at j) P
      by_box false e = subst (λ o. IfSome o P) (sym (outside j e)) tt
      by_box true e = subst (λ o. IfSome o P) (listed j e) h

  module _ (beats : A → A → Bool) (strict : IsStrict beats) where
    abbrev IsBestRank : ℕ → Type 0
    IsBestRank k = (k < size_of m.shape) × IsFirstBest beats m (index_at m.shape k)

    first_best : (r : A) (k : ℕ) → IsFirstBestOf beats (row_major_elements m) r k → IsBestRank k
    first_best r k found =
        let less = slice_get_within (row_major_elements m) k r found.stands in
        let below : k < size_of m.shape = omega (arith, less, count) in
        let rank = row_rank-index_at m.shape k below in (
          below,
          record {
            value = r;
            stands = sym (listed (index_at m.shape k) (in_box-index_at m.shape k below)) ∙ ap (slice_get (row_major_elements m)) rank ∙ found.stands;
            best = λ j. at_index (λ y. beats y r ≡ false) j (found.best (row_rank m.shape j));
            beats_earlier = λ j before. at_index (λ y. beats r y ≡ true) j (found.beats_earlier (row_rank m.shape j) (omega (arith, before, rank)));
          },
        )

    of_list : (ys : List A) → ys ≡ row_major_elements m → IfSome (rank_of_best beats ys) IsBestRank
    of_list [] is = tt
    of_list (y ∷ ys) is =
        let left = fold (better_by beats) y ys in
        let found = fold_finds beats strict y ys in
        subst IsBestRank (sym (beaten_all_before beats strict (y ∷ ys) left found.0 found.1)) (first_best left found.0 (subst (λ zs. IsFirstBestOf beats zs left found.0) is found.1))

    pub best_found : (result : Option ℕ) → result ≡ rank_of_best beats (row_major_elements m) → IfSome result (λ k. (k < size_of m.shape) × IsFirstBest beats m (index_at m.shape k))
    best_found result is = subst (λ o. IfSome o IsBestRank) (sym is) (of_list _ refl)

    pub none_found : (result : Option ℕ) → result ≡ rank_of_best beats (row_major_elements m) → IsNone result ↔ (size_of m.shape ≡ 0)
    none_found result is =
        let none = none_of_list beats (row_major_elements m) result is in
        (λ h. sym count ∙ none.0 h, λ h. none.1 (count ∙ h))
