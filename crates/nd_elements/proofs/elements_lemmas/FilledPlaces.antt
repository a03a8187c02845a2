-- A value written at one place after another.
use Rattle.nd_elements.proofs.NamesFromOtherCrates.{◌≡◌, ℕ, ◌+◌, ◌-◌, ◌<◌, ◌≤◌, true, ℤ, pos, negsuc, refl, ap, sym, ◌∙◌, arith, inl, inr, ⊎_elim, ◌⊎◌, Option, Some, nat_eq, nat_lt, if◌then◌else◌, nat_tests, add-zero}
use Rattle.std.specs.Option.{is_some}
use Rattle.nd_elements.specs.StoragePlaces.{stored_at, names_place, written_at}
use Rattle.nd_elements.specs.FilledPlaces.{IsFilledTo, IsPartlyFilled}
use Rattle.nd_elements.proofs.elements_lemmas.ReplacedElements.{written_here, written_elsewhere}
use Rattle.nd_elements.proofs.BoolAndResultCases.{by_value}

module _ {A : Type 0} (x : A) where
  -- what holds something goes on to
  pub partly_holds : (place : ℕ → ℤ) (count : ℕ) (old new : ℕ → Option A) → IsPartlyFilled place count x old new → (z : ℤ) → names_place old z ≡ true → names_place new z ≡ true
  partly_holds place count old new so_far (negsuc n) has = has
  partly_holds place count old new so_far (pos p) has = ⊎_elim (λ (same : new p ≡ old p). ap is_some same ∙ has) (λ (other : new p ≡ Some x). ap is_some other) (so_far.each p)

  pub filled_partly : (place : ℕ → ℤ) (k n : ℕ) (old new : ℕ → Option A) → k ≤ n → IsFilledTo place k x old new → IsPartlyFilled place n x old new
  filled_partly place k n old new within so_far = record { left = λ p nowhere. so_far.left p (λ j h. nowhere j (omega (arith, h, within))); each = so_far.each }

  pub filled_holds : (place : ℕ → ℤ) (k : ℕ) (old new : ℕ → Option A) → IsFilledTo place k x old new → (z : ℤ) → names_place old z ≡ true → names_place new z ≡ true
  filled_holds place k old new so_far = partly_holds place k old new (filled_partly place k k old new (omega arith) so_far)

  -- a lane more: its places are the next ones
  module _ (place lane : ℕ → ℤ) (k count : ℕ) (goes_on : (j : ℕ) → j < count → lane j ≡ place (k + j)) (old now new : ℕ → Option A) (so_far : IsFilledTo place k x old now) where
    each_then : ((p : ℕ) → (new p ≡ now p) ⊎ (new p ≡ Some x)) → (p : ℕ) → (new p ≡ old p) ⊎ (new p ≡ Some x)
    each_then later p = ⊎_elim (λ (same : new p ≡ now p). ⊎_elim (λ (before : now p ≡ old p). inl (same ∙ before)) (λ (before : now p ≡ Some x). inr (same ∙ before)) (so_far.each p)) (λ (other : new p ≡ Some x). inr other) (later p)

    left_then : (n : ℕ) → k + count ≤ n → ((p : ℕ) → ((j : ℕ) → j < count → lane j ≡ pos p → ⊥) → new p ≡ now p) → (p : ℕ) → ((j : ℕ) → j < n → place j ≡ pos p → ⊥) → new p ≡ old p
    left_then n within later p nowhere =
        later p (λ j below e. nowhere (k + j) (omega (arith, below, within)) (sym (goes_on j below) ∙ e)) ∙ so_far.left p (λ j below. nowhere j (omega (arith, below, within)))

    pub filled_then : IsFilledTo lane count x now new → IsFilledTo place (k + count) x old new
    filled_then later = record { done = done_by; left = left_then (k + count) (omega arith) later.left; each = each_then later.each }
      where
        still : (z : ℤ) → stored_at now z ≡ Some x → stored_at new z ≡ Some x
        still (negsuc n) h = h
        still (pos q) h = ⊎_elim (λ (same : new q ≡ now q). same ∙ h) (λ (other : new q ≡ Some x). other) (later.each q)

        done_by : (j : ℕ) → j < k + count → stored_at new (place j) ≡ Some x
        done_by j below =
            by_value (λ _. stored_at new (place j) ≡ Some x) (nat_lt j k) (λ e. still (place j) (so_far.done j (grind (arith, nat_tests, e)))) (λ e.
            let above : k ≤ j = grind (arith, nat_tests, e) in
            let whole : k + (j - k) ≡ j = omega (arith, above) in
            let inner : j - k < count = omega (arith, above, below) in
            ap (λ i. stored_at new (place i)) (sym whole) ∙ (ap (stored_at new) (sym (goes_on (j - k) inner)) ∙ later.done (j - k) inner))

    pub partly_then : (n : ℕ) → k + count ≤ n → IsPartlyFilled lane count x now new → IsPartlyFilled place n x old new
    partly_then n within later = record { left = left_then n within later.left; each = each_then later.each }

  -- one place more
  pub filled_more : (place : ℕ → ℤ) (old now new : ℕ → Option A) (k p : ℕ) → pos p ≡ place k → ((q : ℕ) → new q ≡ written_at now p x q) → IsFilledTo place k x old now → IsFilledTo place (k + 1) x old new
  filled_more place old now new k p at is so_far =
      filled_then place (λ j. place (k + j)) k 1 (λ j under. refl) old now new so_far (record {
        done = one;
        left = λ q nowhere. written_elsewhere now new p x is q (λ same. nowhere 0 (omega arith) (ap place (add-zero k) ∙ (sym at ∙ ap pos (sym same))));
        each = λ q. by_value (λ _. (new q ≡ now q) ⊎ (new q ≡ Some x)) (nat_eq q p) (λ e. inr (is q ∙ ap (λ t. if t then Some x else now q) e)) (λ e. inl (is q ∙ ap (λ t. if t then Some x else now q) e));
      })
    where
      one : (j : ℕ) → j < 1 → stored_at new (place (k + j)) ≡ Some x
      one j under = let last : k ≡ k + j = omega (arith, under) in ap (λ m. stored_at new (place m)) (sym last) ∙ (ap (stored_at new) (sym at) ∙ written_here now new p x is)
