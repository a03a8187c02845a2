-- Elements rewritten one place after another, each by a call that its number tells.
use Rattle.nd_elements.proofs.NamesFromOtherCrates.{◌≡◌, ℕ, ◌+◌, ◌<◌, ◌≤◌, ℤ, pos, negsuc, refl, ap, sym, subst, ◌∙◌, arith, Option, add-zero}
use Rattle.nd_elements.specs.StoragePlaces.{stored_at}
use Rattle.nd_elements.specs.elements.ElementFolds.{RanTo}
use Rattle.nd_elements.specs.elements.ElementChanges.{AreDistinct, IsRewrittenTo}
use Rattle.nd_elements.proofs.NumberedCalls.{ran_weaker, ran_then}

-- what two storages hold at a whole number, where they hold the same at its place
pub stored_same : {A : Type 0} (old new : ℕ → Option A) (z : ℤ) → ((p : ℕ) → z ≡ pos p → new p ≡ old p) → stored_at new z ≡ stored_at old z
stored_same old new (pos p) same = same p refl
stored_same old new (negsuc p) same = refl

-- distinct places that aren't among the first k hold what they held, where only those were written
pub later_same : {A : Type 0} (place : ℕ → ℤ) (k n : ℕ) → AreDistinct place n → (old now : ℕ → Option A) → ((p : ℕ) → ((i : ℕ) → i < k → place i ≡ pos p → ⊥) → now p ≡ old p) → (j : ℕ) → k ≤ j → j < n → stored_at now (place j) ≡ stored_at old (place j)
later_same place k n apart old now left j above below =
    stored_same old now (place j) (λ p e. left p (λ i under f. let same = apart i j (omega (arith, under, above, below)) below (f ∙ sym e) in absurd (omega (arith, same, under, above))))

module _ {F A : Type 0} (call : ℕ → Option A → Option A → F → F → Type 0) where
  pub rewritten_none : (place : ℕ → ℤ) (old : ℕ → Option A) (f : F) → IsRewrittenTo call place 0 old old f f
  rewritten_none place old f = record { calls = refl; left = λ p nowhere. refl }

  -- places rewritten after the first k, the next ones
  module _ (place lane : ℕ → ℤ) (k count n : ℕ) (within : k + count ≤ n) (apart : AreDistinct place n) (goes_on : (j : ℕ) → j < count → lane j ≡ place (k + j)) (old now new : ℕ → Option A) (first mid last : F) (so_far : IsRewrittenTo call place k old now first mid) where
    -- the next places hold what they held
    pub still_rewritten : (j : ℕ) → j < count → stored_at now (lane j) ≡ stored_at old (place (k + j))
    still_rewritten j below = ap (stored_at now) (goes_on j below) ∙ later_same place k n apart old now so_far.left (k + j) (omega arith) (omega (arith, below, within))

    pub rewritten_then : (later : ℕ → Option A → Option A → F → F → Type 0) → ((j : ℕ) (o w : Option A) (p q : F) → j < count → later j o w p q → call (k + j) o w p q) → IsRewrittenTo later lane count now new mid last → IsRewrittenTo call place (k + count) old new first last
    rewritten_then later follows after = record {
      calls = ran_then (λ p j q. call j (stored_at old (place j)) (stored_at new (place j)) p q) (λ p j q. later j (stored_at now (lane j)) (stored_at new (lane j)) p q) first mid last k count
          (λ p j q below step. follows j (stored_at old (place (k + j))) (stored_at new (place (k + j))) p q below (subst (λ z. later j (stored_at old (place (k + j))) (stored_at new z) p q) (goes_on j below) (subst (λ o. later j o (stored_at new (lane j)) p q) (still_rewritten j below) step)))
          (ran_weaker (λ p j q. call j (stored_at old (place j)) (stored_at now (place j)) p q) (λ p j q. call j (stored_at old (place j)) (stored_at new (place j)) p q) first mid k (λ p j q below step. subst (λ o. call j (stored_at old (place j)) o p q) (sym (kept_there j below)) step) so_far.calls)
          after.calls;
      left = λ p nowhere. after.left p (λ j below e. nowhere (k + j) (omega (arith, below)) (sym (goes_on j below) ∙ e)) ∙ so_far.left p (λ j below e. nowhere j (omega (arith, below)) e);
    }
      where
        kept_there : (j : ℕ) → j < k → stored_at new (place j) ≡ stored_at now (place j)
        kept_there j under = stored_same now new (place j) (λ p e. after.left p (λ i below f. let same = apart (k + i) j (omega (arith, below, within)) (omega (arith, under, within)) (sym (goes_on i below) ∙ (f ∙ sym e)) in absurd (omega (arith, same, under))))

    -- the next calls may be made
    pub rewrites_next : (somehow later : ℕ → Option A → F → F → Type 0) → ((j : ℕ) (o w : Option A) (p q : F) → call j o w p q → somehow j o p q) → ((j : ℕ) (o : Option A) (p q : F) → j < count → later j o p q → somehow (k + j) o p q)
        → (j : ℕ) (state : F) → j < count → RanTo (λ p i q. later i (stored_at now (lane i)) p q) mid j state → RanTo (λ p i q. somehow i (stored_at old (place i)) p q) first (k + j) state
    rewrites_next somehow later weaker follows j state below run =
        ran_then (λ p i q. somehow i (stored_at old (place i)) p q) (λ p i q. later i (stored_at now (lane i)) p q) first mid state k j
        (λ p i q under step. follows i (stored_at old (place (k + i))) p q (omega (arith, under, below)) (subst (λ o. later i o p q) (still_rewritten i (omega (arith, under, below))) step))
        (ran_weaker (λ p i q. call i (stored_at old (place i)) (stored_at now (place i)) p q) (λ p i q. somehow i (stored_at old (place i)) p q) first mid k (λ p i q under step. weaker i (stored_at old (place i)) (stored_at now (place i)) p q step) so_far.calls) run

  -- the next place holds what it held
  pub next_there : (place : ℕ → ℤ) (n k : ℕ) → k < n → AreDistinct place n → (old now : ℕ → Option A) (first mid : F) → IsRewrittenTo call place k old now first mid → stored_at now (place k) ≡ stored_at old (place k)
  next_there place n k below apart old now first mid so_far = later_same place k n apart old now so_far.left k (omega arith) below

  -- one place more
  pub rewritten_more : (place : ℕ → ℤ) (k n p : ℕ) → k < n → AreDistinct place n → pos p ≡ place k → (old now new : ℕ → Option A) (first mid last : F) → IsRewrittenTo call place k old now first mid
      → call k (now p) (new p) mid last → ((q : ℕ) → (q ≡ p → ⊥) → new q ≡ now q) → IsRewrittenTo call place (k + 1) old new first last
  rewritten_more place k n p below apart at old now new first mid last so_far step left =
      rewritten_then place (λ j. place (k + j)) k 1 n (omega (arith, below)) apart (λ j under. refl) old now new first mid last so_far (λ j. call (k + j)) (λ j o w p q under s. s)
      (record {
        calls = (mid, refl, subst (λ m. call m (stored_at now (place m)) (stored_at new (place m)) mid last) (sym (add-zero k)) (subst (λ z. call k (stored_at now z) (stored_at new z) mid last) at step));
        left = λ q nowhere. left q (λ same. nowhere 0 (omega arith) (ap place (add-zero k) ∙ (sym at ∙ ap pos (sym same))));
      })
