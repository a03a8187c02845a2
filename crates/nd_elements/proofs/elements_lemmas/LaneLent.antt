-- A lane lent as a part of a storage, written there, and given back.
use Rattle.nd_elements.proofs.NamesFromOtherCrates.{◌≡◌, ℕ, ◌<◌, ℤ, pos, sym, subst, ◌∙◌, arith, inl, inr, Option, Result, Ok, Err, OnOk, OnErr, ◌⊎◌, Bor, MutBor, Mut}
use Rattle.nd_elements.specs.StoragePlaces.{stored_at}
use Rattle.nd_elements.specs.elements.AssignedElements.{IsAssignedTo, IsPartlyAssigned}
use Rattle.nd_elements.specs.elements.PairsWithOneWritten.{ChangesWith, ChangesWithSomehow, IsZippedTo, TakesPairs}
use Rattle.nd_elements.proofs.NumberedCalls.{ran_weaker}
use Rattle.nd_elements.proofs.elements_lemmas.RunPairs.{rewritten_alike}

-- elements written in the part are written in the storage: all of them, or some
pub lent_outcome : {A E : Type 0} (place : ℕ → ℤ) (n : ℕ) (old new olds news given : ℕ → Option A) → ((k : ℕ) → k < n → stored_at olds (place k) ≡ stored_at old (place k)) → ((k : ℕ) → k < n → stored_at new (place k) ≡ stored_at news (place k)) → ((p : ℕ) → ((k : ℕ) → k < n → place k ≡ pos p → ⊥) → new p ≡ old p)
    → (result : Result (Unit {0}) E) → (OnOk result (IsAssignedTo given place n olds news) × OnErr result (IsPartlyAssigned given place n olds news)) → (OnOk result (IsAssignedTo given place n old new) × OnErr result (IsPartlyAssigned given place n old new))
lent_outcome place n old new olds news given same_old same_new left (Ok u) run = (record { done = λ k below. same_new k below ∙ run.0.done k below; left = left }, tt)
lent_outcome place n old new olds news given same_old same_new left (Err e) run = (tt, record { each = λ k below. either k below (run.1.each k below); left = left })
  where
    either : (k : ℕ) → k < n → (stored_at news (place k) ≡ stored_at olds (place k)) ⊎ (stored_at news (place k) ≡ given k) → (stored_at new (place k) ≡ stored_at old (place k)) ⊎ (stored_at new (place k) ≡ given k)
    either k below (inl kept) = inl (same_new k below ∙ (kept ∙ same_old k below))
    either k below (inr put) = inr (same_new k below ∙ put)

module _ {F A B : Type 0} (g : Mut F (MutBor A × (Bor B × Unit {0})) (Unit {0} × (MutBor A × Unit {0}))) (place other_place : ℕ → ℤ) (n : ℕ) (old olds : ℕ → Option A) (others : ℕ → Option B) (same_old : (k : ℕ) → k < n → stored_at olds (place k) ≡ stored_at old (place k)) where
  -- the calls may be made for the part where they may for the storage
  pub lent_takes : (f : F) → TakesPairs g old place others other_place f n → TakesPairs g olds place others other_place f n
  lent_takes f takes k now below run x b is is_other =
      takes k now below
      (ran_weaker (λ p j q. ChangesWithSomehow g (stored_at others (other_place j)) (stored_at olds (place j)) p q) (λ p j q. ChangesWithSomehow g (stored_at others (other_place j)) (stored_at old (place j)) p q) f now k
      (λ p j q under step. subst (λ o. ChangesWithSomehow g (stored_at others (other_place j)) o p q) (same_old j (omega (arith, under, below))) step) run) x b
      (sym (same_old k below) ∙ is) is_other

  -- what they left in the part is left in the storage
  pub lent_zipped : (new news : ℕ → Option A) → ((k : ℕ) → k < n → stored_at new (place k) ≡ stored_at news (place k)) → ((p : ℕ) → ((k : ℕ) → k < n → place k ≡ pos p → ⊥) → new p ≡ old p) → (f last : F)
      → IsZippedTo g place others other_place n olds news f last → IsZippedTo g place others other_place n old new f last
  lent_zipped new news same_new left f last run =
      let call = λ (k : ℕ) (o w : Option A) (p q : F). ChangesWith g (stored_at others (other_place k)) o w p q in
      rewritten_alike call call place place n old new olds news (λ j o w p q below step. step) same_old (λ j below. sym (same_new j below)) f last left run
