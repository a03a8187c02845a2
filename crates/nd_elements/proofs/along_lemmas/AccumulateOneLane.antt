-- A lane gone along: each call is shown the element that the call before left.
use Rattle.nd_elements.proofs.NamesFromOtherCrates.{◌≡◌, ℕ, zero, suc, ◌+◌, ◌-◌, ◌<◌, ◌≤◌, true, ℤ, pos, ap, sym, subst, ◌∙◌, arith, Option, is_some, Bor, MutBor, Mut}
use Rattle.nd_elements.specs.StoragePlaces.{stored_at, names_place}
use Rattle.nd_elements.specs.elements.ElementFolds.{RanTo}
use Rattle.nd_elements.specs.elements.ElementChanges.{AreDistinct}
use Rattle.nd_elements.specs.along.AccumulateAlongAxis.{ChangesAfter, TakesAfter, IsAccumulated, TakesLane}
use Rattle.nd_elements.proofs.BoolAndResultCases.{by_order}
use Rattle.nd_elements.proofs.NumberedCalls.{ran_more, ran_weaker, ran_at}
use Rattle.nd_elements.proofs.elements_lemmas.ElementsHandedToBeWritten.{stored_same}

module _ {F A : Type 0} (g : Mut F (Bor A × (MutBor A × Unit {0})) (Unit {0} × (MutBor A × Unit {0}))) where
  module _ (place : ℕ → ℤ) (n : ℕ) (apart : AreDistinct place n) (old now : ℕ → Option A) (first mid : F) where
    -- a place that no call has reached holds what it held
    pub unreached : (k j : ℕ) → k < j → j < n → IsAccumulated g place k old now first mid → stored_at now (place j) ≡ stored_at old (place j)
    unreached k j under below so_far =
        stored_same old now (place j) (λ p e. so_far.left p (λ i on f. let same = apart (suc i) j (omega (arith, on, under, below)) below (f ∙ sym e) in absurd (omega (arith, same, on, under))))

    -- the first one always does
    pub first_stays : (k : ℕ) → k < n → IsAccumulated g place k old now first mid → stored_at now (place 0) ≡ stored_at old (place 0)
    first_stays k below so_far =
        stored_same old now (place 0) (λ p e. so_far.left p (λ i on f. let same = apart (suc i) 0 (omega (arith, on, below)) (omega (arith, below)) (f ∙ sym e) in absurd (omega (arith, same))))

    -- each place holds something still
    pub accumulated_there : (k j : ℕ) → k < n → j < n → IsAccumulated g place k old now first mid → ((i : ℕ) → i < n → names_place old (place i) ≡ true) → names_place now (place j) ≡ true
    accumulated_there k zero below on so_far holds = ap is_some (first_stays k below so_far) ∙ holds 0 on
    accumulated_there k (suc j) below on so_far holds =
        by_order j k
        (λ under. ap is_some (ran_at (λ p i q. ChangesAfter g (stored_at now (place i)) (stored_at old (place (suc i))) (stored_at now (place (suc i))) p q) first mid k j under so_far.calls).2.5)
        (λ past. ap is_some (unreached k (suc j) (omega (arith, past)) on so_far) ∙ holds (suc j) on)

    -- the next call may be made
    pub next_accumulable : (k : ℕ) → suc k < n → IsAccumulated g place k old now first mid → TakesLane g place (n - 1) old first → TakesAfter g (stored_at now (place k)) (stored_at now (place (suc k))) mid
    next_accumulable k below so_far takes x y shows gives =
        takes (λ j. stored_at now (place j)) k mid (omega (arith, below)) (first_stays k (omega (arith, below)) so_far) so_far.calls x y shows
        (sym (unreached k (suc k) (omega arith) below so_far) ∙ gives)

    -- one call more
    pub accumulated_more : (k : ℕ) → suc k < n → (new : ℕ → Option A) (last : F) → IsAccumulated g place k old now first mid
        → ChangesAfter g (stored_at now (place k)) (stored_at now (place (suc k))) (stored_at new (place (suc k))) mid last → ((p : ℕ) → (pos p ≡ place (suc k) → ⊥) → new p ≡ now p) → IsAccumulated g place (k + 1) old new first last
    accumulated_more k below new last so_far call left = record { calls = calls; left = λ p nowhere. left p (λ e. nowhere k (omega arith) (sym e)) ∙ so_far.left p (λ j on. nowhere j (omega (arith, on))) }
      where
        -- what the call left alone
        kept : (j : ℕ) → j ≤ k → stored_at new (place j) ≡ stored_at now (place j)
        kept j on = stored_same now new (place j) (λ p e. left p (λ f. let same = apart j (suc k) (omega (arith, on, below)) below (e ∙ f) in absurd (omega (arith, same, on))))

        calls : RanTo (λ p j q. ChangesAfter g (stored_at new (place j)) (stored_at old (place (suc j))) (stored_at new (place (suc j))) p q) first (k + 1) last
        calls =
            ran_more (λ p j q. ChangesAfter g (stored_at new (place j)) (stored_at old (place (suc j))) (stored_at new (place (suc j))) p q) first mid last k
            (ran_weaker (λ p j q. ChangesAfter g (stored_at now (place j)) (stored_at old (place (suc j))) (stored_at now (place (suc j))) p q)
            (λ p j q. ChangesAfter g (stored_at new (place j)) (stored_at old (place (suc j))) (stored_at new (place (suc j))) p q) first mid k
            (λ p j q on step. subst (λ o. ChangesAfter g o (stored_at old (place (suc j))) (stored_at new (place (suc j))) p q) (sym (kept j (omega (arith, on))))
            (subst (λ o. ChangesAfter g (stored_at now (place j)) (stored_at old (place (suc j))) o p q) (sym (kept (suc j) (omega (arith, on)))) step)) so_far.calls)
            (subst (λ o. ChangesAfter g o (stored_at old (place (suc k))) (stored_at new (place (suc k))) mid last) (sym (kept k (omega arith)))
            (subst (λ o. ChangesAfter g (stored_at now (place k)) o (stored_at new (place (suc k))) mid last) (unreached k (suc k) (omega arith) below so_far) call))
