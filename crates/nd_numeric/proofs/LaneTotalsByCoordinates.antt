-- The totals of lanes, once one more coordinate is taken.
use Rattle.std.proofs.Common.{◌≡◌, ◌∙◌, refl, sym, ap, ℕ, zero, suc, ◌<◌, Bool, true, false, List, [], ◌∷◌, length, Option, Some, None, slice_get, arith}
use Rattle.std.specs.Prelude.{IsSome}
use Rattle.std.specs.List.{fold, insert}
use Rattle.std.proofs.lemmas.List.Sums.{fold_push}
use Rattle.nd_shape_and_slice.specs.ShapesAndIndexOrders.{in_box, row_rank, size_of}
use Rattle.nd_array_core.specs.ConcatenationAndSplit.{row_major_elements}
use Rattle.nd_array_core.specs.ArrayMeaning.{Meaning, inside}
use Rattle.nd_array_core.specs.along.AxisFolds.{lane_elements}
use Rattle.nd_array_core.specs.elements.BroadcastPairs.{option_both}
use Rattle.nd_array_core.specs.reshape.ReshapeLaws.{ListsByRank, RanksAreBelow}

module _ {A : Type 0} where
  item_below : (xs : List A) (k : ℕ) → k < length xs → ¬ (slice_get xs k ≡ None)
  item_below [] k below none = omega (arith, below)
  item_below (x ∷ xs) zero below none = absurd cc
  item_below (x ∷ xs) (suc k) below none = item_below xs k (omega (arith, below)) none

  -- each index of the shape has an element
  pub element_inside : (m : Meaning A) → length (row_major_elements m) ≡ size_of m.shape → RanksAreBelow m.shape → ListsByRank m → (i : List ℕ) → in_box m.shape i ≡ true → ¬ (m.at i ≡ None)
  element_inside m long below listed i within none =
      item_below (row_major_elements m) (row_rank m.shape i) (let low = below i within in omega (arith, low, long)) (listed i within ∙ none)

  pub element_stands : (m : Meaning A) → length (row_major_elements m) ≡ size_of m.shape → RanksAreBelow m.shape → ListsByRank m → (i : List ℕ) → in_box m.shape i ≡ true → IsSome (m.at i)
  element_stands m long below listed i within = by_case (m.at i) (element_inside m long below listed i within)
    where
      by_case : (o : Option A) → ¬ (o ≡ None) → IsSome o
      by_case (Some x) some = refl
      by_case None some = absurd (some refl)

module _ {A B : Type 0} (h : B → A → B) (first : B) (at : List ℕ → Option A) (axis : ℕ) (rest : List ℕ) where
  abbrev Below : ℕ → (List ℕ → Option B) → Type 0
  Below k totals = (i : List ℕ) → totals i ≡ inside rest i (Some (fold h first (lane_elements at axis k i)))

  module _ (k : ℕ) (old new : List ℕ → Option B) (part : List ℕ → Option A) where
    pub totals_more : Below k old → ((i : List ℕ) → part i ≡ inside rest i (at (insert i axis k))) → ((i : List ℕ) → in_box rest i ≡ true → ¬ (part i ≡ None)) → ((i : List ℕ) → new i ≡ option_both h (old i) (part i)) → Below (suc k) new
    totals_more so shows some both i = by_box (in_box rest i) refl
      where
        taken : in_box rest i ≡ true → (o : Option A) → at (insert i axis k) ≡ o → new i ≡ inside rest i (Some (fold h first (lane_elements at axis (suc k) i)))
        taken e None is = absurd (some i e (shows i ∙ rw e is))
        taken e (Some x) is =
            let total : old i ≡ Some (fold h first (lane_elements at axis k i)) = so i ∙ rw e refl in
            let element : part i ≡ Some x = shows i ∙ rw e is in
            both i
            ∙ ap (λ o. option_both h o (part i)) total
            ∙ ap (option_both h (Some (fold h first (lane_elements at axis k i)))) element
            ∙ ap Some (sym (fold_push h first (lane_elements at axis k i) x))
            ∙ rw (e, is) refl

        by_box : (b : Bool) → in_box rest i ≡ b → new i ≡ inside rest i (Some (fold h first (lane_elements at axis (suc k) i)))
        by_box true e = taken e (at (insert i axis k)) refl
        by_box false e =
            let none : old i ≡ None = so i ∙ rw e refl in
            both i ∙ ap (λ o. option_both h o (part i)) none ∙ rw e refl
