-- A lane gone along as a slice: a slice split after an element, and what its calls say of the places.
use Rattle.nd_elements.proofs.NamesFromOtherCrates.{◌≡◌, ℕ, zero, suc, ◌-◌, ◌<◌, List, [], ◌∷◌, ◌++◌, length, ℤ, pos, negsuc, refl, ap, sym, subst, ◌∙◌, arith, slice_set, Option, slice_get, Bor, MutBor, Mut, set_elsewhere}
use Rattle.nd_elements.specs.StoragePlaces.{stored_at}
use Rattle.nd_elements.specs.elements.ElementFolds.{RanTo}
use Rattle.nd_elements.specs.along.AccumulateAlongAxis.{ChangesAfter, IsAccumulated, TakesLane}
use Rattle.nd_elements.proofs.BoolAndResultCases.{by_order}
use Rattle.nd_elements.proofs.NumberedCalls.{ran_weaker}
use Rattle.nd_elements.proofs.elements_lemmas.RunPairs.{number}

number_of : ℤ → ℕ
number_of (pos k) = k
number_of (negsuc k) = k

same_number : (m n : ℕ) → pos m ≡ pos n → m ≡ n
unfolding number_of
same_number m n e = ap number_of e

zero_apart : (k : ℕ) → number (suc k) ≡ pos 0 → ⊥
zero_apart k e = let no : suc k ≡ 0 = same_number (suc k) 0 e in absurd (omega (arith, no))

module _ {A : Type 0} where
  -- the item after the first part
  pub got_next : (xs ys : List A) (n : ℕ) → length xs ≡ n → slice_get (xs ++ ys) n ≡ slice_get ys 0
  got_next [] ys zero long = refl
  got_next [] ys (suc n) long = absurd (omega (arith, long))
  got_next (x ∷ xs) ys zero long = absurd (omega (arith, long))
  got_next (x ∷ xs) ys (suc n) long = got_next xs ys n (omega (arith, long))

  -- another put there changes no item but that
  pub left_but_next : (xs ys : List A) (y : A) (n p : ℕ) → length xs ≡ n → (p ≡ n → ⊥) → slice_get (xs ++ slice_set ys 0 y) p ≡ slice_get (xs ++ ys) p
  left_but_next [] ys y zero p long apart = set_elsewhere ys 0 p y apart
  left_but_next [] ys y (suc n) p long apart = absurd (omega (arith, long))
  left_but_next (x ∷ xs) ys y zero p long apart = absurd (omega (arith, long))
  left_but_next (x ∷ xs) ys y (suc n) zero long apart = refl
  left_but_next (x ∷ xs) ys y (suc n) (suc p) long apart = left_but_next xs ys y n p (omega (arith, long)) (λ e. apart (ap suc e))

  pub long_after : (xs ys : List A) (y : A) → length (xs ++ slice_set ys 0 y) ≡ length (xs ++ ys)
  long_after [] [] y = refl
  long_after [] (z ∷ ys) y = refl
  long_after (x ∷ xs) ys y = ap suc (long_after xs ys y)

module _ {F A : Type 0} (g : Mut F (Bor A × (MutBor A × Unit {0})) (Unit {0} × (MutBor A × Unit {0}))) (place : ℕ → ℤ) (n : ℕ) (some : 0 < n) (old : ℕ → Option A) (xs : List A) (long : length xs ≡ n) (same : (k : ℕ) → k < n → slice_get xs k ≡ stored_at old (place k)) where
  -- the calls for the slice may be made where those for the places may
  pub run_accumulable : (f : F) → TakesLane g place (n - 1) old f → TakesLane g number (length xs - 1) (slice_get xs) f
  run_accumulable f takes left k now below start run x y shows gives =
      takes left k now (omega (arith, below, long)) (start ∙ same 0 some)
      (ran_weaker (λ p j q. ChangesAfter g (left j) (slice_get xs (suc j)) (left (suc j)) p q) (λ p j q. ChangesAfter g (left j) (stored_at old (place (suc j))) (left (suc j)) p q) f now k
      (λ p j q under step. subst (λ o. ChangesAfter g (left j) o (left (suc j)) p q) (same (suc j) (omega (arith, under, below, long))) step) run) x y shows
      (sym (same (suc k) (omega (arith, below, long))) ∙ gives)

  module _ (new : ℕ → Option A) (ws : List A) (same_new : (k : ℕ) → k < n → slice_get ws k ≡ stored_at new (place k)) (left : (p : ℕ) → ((k : ℕ) → k < n → place k ≡ pos p → ⊥) → new p ≡ old p) (first : ℕ) (begins : place 0 ≡ pos first) (f last : F) (run : IsAccumulated g number (length xs - 1) (slice_get xs) (slice_get ws) f last) where
    -- the first element stays
    first_kept : new first ≡ old first
    first_kept = sym (ap (stored_at new) begins) ∙ (sym (same_new 0 some) ∙ (run.left 0 (λ k below e. zero_apart k e) ∙ (same 0 some ∙ ap (stored_at old) begins)))

    -- a place that no call changed, and that isn't the first
    others_kept : (p : ℕ) → (p ≡ first → ⊥) → ((k : ℕ) → k < n - 1 → place (suc k) ≡ pos p → ⊥) → new p ≡ old p
    others_kept p apart nowhere = left p nowhere_at
      where
        nowhere_at : (k : ℕ) → k < n → place k ≡ pos p → ⊥
        nowhere_at zero below e = apart (same_number p first (sym e ∙ begins))
        nowhere_at (suc k) below e = nowhere k (omega (arith, below)) e

    kept : (p : ℕ) → ((k : ℕ) → k < n - 1 → place (suc k) ≡ pos p → ⊥) → new p ≡ old p
    kept p nowhere =
        by_order p first
        (λ under. others_kept p (λ e. absurd (omega (arith, under, e))) nowhere)
        (λ past.
        by_order first p
        (λ over. others_kept p (λ e. absurd (omega (arith, over, e))) nowhere)
        (λ on. subst (λ q. new q ≡ old q) (omega (arith, past, on)) first_kept))

    -- what they left in the slice is what they left at the places
    pub run_accumulated : IsAccumulated g place (n - 1) old new f last
    run_accumulated = record {
      calls = subst (λ m. RanBelow m) (ap (λ m. m - 1) long)
          (ran_weaker (λ p j q. ChangesAfter g (slice_get ws j) (slice_get xs (suc j)) (slice_get ws (suc j)) p q) (λ p j q. ChangesAfter g (stored_at new (place j)) (stored_at old (place (suc j))) (stored_at new (place (suc j))) p q) f last (length xs - 1)
          (λ p j q under step. subst (λ o. ChangesAfter g o (stored_at old (place (suc j))) (stored_at new (place (suc j))) p q) (same_new j (omega (arith, under, long)))
          (subst (λ o. ChangesAfter g (slice_get ws j) o (stored_at new (place (suc j))) p q) (same (suc j) (omega (arith, under, long)))
          (subst (λ o. ChangesAfter g (slice_get ws j) (slice_get xs (suc j)) o p q) (same_new (suc j) (omega (arith, under, long))) step))) run.calls);
      left = kept;
    }
      where
        RanBelow : ℕ → Type 0
        RanBelow m = RanTo (λ p j q. ChangesAfter g (stored_at new (place j)) (stored_at old (place (suc j))) (stored_at new (place (suc j))) p q) f m last
