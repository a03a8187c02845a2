-- Elements handed out with their indexes, one after another in row-major order.
use Rattle.nd_elements.proofs.NamesFromOtherCrates.{◌≡◌, ℕ, ◌+◌, ◌<◌, true, false, List, ℤ, pos, refl, ap, sym, subst, ◌∙◌, arith, Option, None, Some, is_some, MutBor, Mut, option_map, in_box, size_of, index_at, row_rank, place_of, in_box-index_at, index_at-row_rank, row_rank-index_at, row_rank_below, place_at_rank, RowMajor}
use Rattle.nd_elements.specs.ShapeAndElements.{inside}
use Rattle.nd_elements.specs.StoragePlaces.{stored_at, names_place, HoldsAll}
use Rattle.nd_elements.specs.elements.ElementChanges.{AreDistinct, IsRewrittenTo}
use Rattle.nd_elements.specs.elements.ElementFolds.{RanTo}
use Rattle.nd_elements.proofs.BoolAndResultCases.{by_bool}
use Rattle.nd_elements.proofs.CallsInFreeOrder.{listed, listed_all, done_at_each}
use Rattle.nd_elements.proofs.IndexesNumberedInOrder.{order_numbers}
use Rattle.nd_elements.proofs.NumberedCalls.{ran_at, ran_weaker, ran_listed}
use Rattle.nd_elements.proofs.RewrittenElements.{rewritten_more, next_there}
use Rattle.nd_array_core.specs.elements.IndexedChanges.{ChangesWithIndex, TakesWithIndex, ChangesAtIndex, ChangesAtIndexSomehow, ChangesInOrder, ChangeableInOrder, ChangesByIndex}

module _ {F X A : Type 0} (g : Mut F (X × (MutBor A × Unit {0})) (Unit {0} × (MutBor A × Unit {0}))) (lengths_of : X → List ℕ) (offset : ℕ) (ns : List ℕ) (ss : List ℤ) where
  abbrev at : (ℕ → Option A) → List ℕ → Option A
  at stored i = inside ns i (stored_at stored (place_of offset ss i))

  abbrev pub call : ℕ → Option A → Option A → F → F → Type 0
  call k o w p q = ChangesAtIndex g lengths_of (index_at ns k) o w p q

  there : (stored : ℕ → Option A) (k : ℕ) → k < size_of ns → stored_at stored (place_at_rank offset ns ss k) ≡ at stored (index_at ns k)
  there stored k below = rw (in_box-index_at ns k below) refl

  module _ (old now : ℕ → Option A) (f mid : F) (k p : ℕ) (below : k < size_of ns) (apart : AreDistinct (place_at_rank offset ns ss) (size_of ns)) (lies : pos p ≡ place_at_rank offset ns ss k) (so_far : IsRewrittenTo call (place_at_rank offset ns ss) k old now f mid) where
    -- the next call may be made
    pub next_indexed : ChangeableInOrder g lengths_of ns (at old) f → (index : X) → lengths_of index ≡ index_at ns k → TakesWithIndex g index (now p) mid
    next_indexed may index is x e =
        may (index_at ns k) mid (in_box-index_at ns k below)
        (subst (λ r. RanTo (λ p j q. ChangesAtIndexSomehow g lengths_of (index_at ns j) (at old (index_at ns j)) p q) f r mid) (sym (row_rank-index_at ns k below))
        (ran_weaker (λ p j q. call j (stored_at old (place_at_rank offset ns ss j)) (stored_at now (place_at_rank offset ns ss j)) p q) (λ p j q. ChangesAtIndexSomehow g lengths_of (index_at ns j) (at old (index_at ns j)) p q) f mid k
        (λ p j q under step. (step.0, step.1, step.2, step.3, sym (there old j (omega (arith, under, below))) ∙ step.4, step.6)) so_far.calls))
        index is x
        (sym (there old k below) ∙ (sym (next_there call (place_at_rank offset ns ss) (size_of ns) k below apart old now f mid so_far) ∙ (ap (stored_at now) (sym lies) ∙ e)))

    -- and once it is, one more is through
    pub indexed_more : (new : ℕ → Option A) (last : F) (index : X) → lengths_of index ≡ index_at ns k → ChangesWithIndex g index (now p) (new p) mid last → ((q : ℕ) → (q ≡ p → ⊥) → new q ≡ now q) → IsRewrittenTo call (place_at_rank offset ns ss) (k + 1) old new f last
    indexed_more new last index is step left =
        rewritten_more call (place_at_rank offset ns ss) k (size_of ns) p below apart lies old now new f mid last so_far (index, step.0, step.1, is, step.2, step.3, step.4) left

    -- its place still holds an element
    pub still_indexed : HoldsAll old offset ns ss → names_place now (pos p) ≡ true
    still_indexed holds =
        ap (λ z. is_some (stored_at now z)) lies ∙ (ap is_some (next_there call (place_at_rank offset ns ss) (size_of ns) k below apart old now f mid so_far) ∙ holds (index_at ns k) (in_box-index_at ns k below))

  module _ (old new : ℕ → Option A) (f last : F) (changed : IsRewrittenTo call (place_at_rank offset ns ss) (size_of ns) old new f last) where
    -- each index still has an element
    pub indexed_holds : HoldsAll new offset ns ss
    indexed_holds i inbox =
        let found = ran_at (λ p k q. call k (stored_at old (place_at_rank offset ns ss k)) (stored_at new (place_at_rank offset ns ss k)) p q) f last (size_of ns) (row_rank ns i) (row_rank_below ns i inbox) changed.calls in
        ap (λ j. names_place new (place_of offset ss j)) (sym (index_at-row_rank ns i inbox)) ∙ ap is_some found.2.5

    -- the calls by index
    pub indexed_all : ChangesInOrder g lengths_of ns (at old) (at new) f
    indexed_all = (
      last,
      ran_weaker (λ p k q. call k (stored_at old (place_at_rank offset ns ss k)) (stored_at new (place_at_rank offset ns ss k)) p q) (λ p k q. call k (at old (index_at ns k)) (at new (index_at ns k)) p q) f last (size_of ns)
          (λ p k q below step. (step.0, step.1, step.2, step.3, sym (there old k below) ∙ step.4, sym (there new k below) ∙ step.5, step.6)) changed.calls,
    )

-- where the closure leaves what h gives and stays as it is, h's values stand everywhere
module _ {F X A : Type 0} (g : Mut F (X × (MutBor A × Unit {0})) (Unit {0} × (MutBor A × Unit {0}))) (lengths_of : X → List ℕ) (shape : List ℕ) (old new : List ℕ → Option A) (f : F) where
  pub indexed_settled : ((i : List ℕ) → in_box shape i ≡ false → new i ≡ None) → ((i : List ℕ) → in_box shape i ≡ false → old i ≡ None) → ChangesInOrder g lengths_of shape old new f → (h : List ℕ → A → A) → ChangesByIndex g lengths_of shape h f → (i : List ℕ) → new i ≡ option_map (h i) (old i)
  indexed_settled nothing_new nothing all h by i = by_bool (in_box shape i)
      (λ e. done_at_each shape (λ p j q. ChangesAtIndex g lengths_of j (old j) (new j) p q) f (λ j. new j ≡ option_map (h j) (old j)) does
      (listed (index_at shape) (size_of shape)) (listed_all (order_numbers RowMajor shape)) all.0
      (ran_listed (λ p j q. ChangesAtIndex g lengths_of j (old j) (new j) p q) (index_at shape) f all.0 (size_of shape) all.1) i e)
      (λ e. nothing_new i e ∙ ap (option_map (h i)) (sym (nothing i e)))
    where
      does : (j : List ℕ) (q : F) → in_box shape j ≡ true → ChangesAtIndex g lengths_of j (old j) (new j) f q → (q ≡ f) × (new j ≡ option_map (h j) (old j))
      does j q inbox step =
          let gives = by step.0 step.1 step.2 q (ap (in_box shape) step.3 ∙ inbox) step.6 in
          (gives.0, step.5 ∙ (ap Some (gives.1 ∙ ap (λ i. h i step.1) step.3) ∙ ap (option_map (h j)) (sym step.4)))
