-- Elements handed out to be written, one place after another, with what was answered for each; and the same by index.
use Rattle.nd_array_core.proofs.NamesFromOtherCrates.{◌≡◌, ℕ, zero, suc, ◌<◌, Bool, true, false, List, [], ◌∷◌, ◌++◌, length, ℤ, pos, ◌+ℤ◌, refl, ap, sym, subst, ◌∙◌, arith, length-append, Option, None, Some, is_some, slice_get, MutBor, Mut, option_map, in_box, size_of, row_rank, index_at, got_last, got_still, IsRearranged, IsRejoined, stored_at, AnswersThere, HasAnswers, RanTo, IsChangedBy, option_both, AnswersAt, TakesNumbered, Replaces, paired_at, LeavesAndAnswers, LeavesBy, AnswersHandedBy, Collects, TakesCollecting, IsNumbering, listed, listed_all, done_at_each, collects_ran, joined_numbers, ran_at, ran_weaker, ran_listed}

-- a layout whose axes were joined has the same places in the same order
pub joined_order : (ns : List ℕ) (ss : List ℤ) (ms : List ℕ) (ts : List ℤ) (joined : IsRejoined ns ss ms ts) (offset start : ℕ) → start ≡ offset → IsRearranged offset ns ss start ms ts
joined_order ns ss ms ts joined offset start from = record {
  index_of = index_at ns;
  rank_of = row_rank ns;
  within = numbers.inside;
  below = numbers.below;
  there = numbers.rank_is;
  back = numbers.index_is;
  same = λ r low. let size = joined.size in let within : r < size_of ns = omega (arith, low, size) in λ i. pos (from i) +ℤ joined.same r within i;
}
  where
    numbers : IsNumbering ns (size_of ms) (index_at ns) (row_rank ns)
    numbers = joined_numbers ns ss ms ts joined

-- what two maps have, by what they have together
pub both_is : {A B : Type 0} (o : Option A) (w : Option B) (p : A × B) → option_both (λ x y. (x, y)) o w ≡ Some p → (o ≡ Some p.0) × (w ≡ Some p.1)
both_is (Some x) (Some y) p e = (ap (option_map (λ z. z.0)) e, ap (option_map (λ z. z.1)) e)
both_is (Some x) None p e = absurd cc
both_is None w p e = absurd cc

module _ {P A B : Type 0} (answers : P → Option A → A × B → P → Type 0) where
  pub collects_taken : (takes : P → Option A → Type 0) (found : ℕ → Option A) (first : P) (items : List B) (count : ℕ) → TakesNumbered answers takes found first count → TakesNumbered (Collects answers) (TakesCollecting takes) found (first, items) count
  collects_taken takes found first items count may k now below run = may k now.0 below (collects_ran answers found (first, items) now k run)

  -- the calls, each with what it left and the item that it answered
  pub collects_items : (old new : ℕ → Option A) (first : P) (count : ℕ) (last : P × List B) → RanTo (λ p k q. Replaces (Collects answers) (old k) (new k) p q) (first, []) count last
      → (length last.1 ≡ count) × RanTo (λ p k q. (out : A × B) × (new k ≡ Some out.0) × (slice_get last.1 k ≡ Some out.1) × answers p (old k) out q) first count last.0
  collects_items old new first zero last run = (ap (λ p. length p.1) run, ap (λ p. p.0) run)
  collects_items old new first (suc k) last run =
      let mid = run.0 in
      let call = run.2 in
      let b = call.2.0 in
      let more : last.1 ≡ mid.1 ++ b ∷ [] = call.2.1 in
      let so_far = collects_items old new first k mid run.1 in
      let long = length-append mid.1 (b ∷ []) in
      let whole = ap length more in
      let before = so_far.0 in (
        omega (arith, long, whole, before),
        (
          mid.0,
          ran_weaker (λ p j q. (out : A × B) × (new j ≡ Some out.0) × (slice_get mid.1 j ≡ Some out.1) × answers p (old j) out q) (λ p j q. (out : A × B) × (new j ≡ Some out.0) × (slice_get last.1 j ≡ Some out.1) × answers p (old j) out q) first mid.0 k
              (λ p j q below step. (step.0, step.1, ap (λ xs. slice_get xs j) more ∙ got_still mid.1 (b ∷ []) j step.0.1 step.2, step.3)) so_far.1,
          ((call.0, b), call.1, ap (λ xs. slice_get xs k) more ∙ got_last mid.1 b k before, call.2.2),
        ),
      )

  -- the same by index
  module _ {shape : List ℕ} {count : ℕ} {index : ℕ → List ℕ} {rank : List ℕ → ℕ} (numbered : IsNumbering shape count index rank) (place : ℕ → ℤ) (old new : ℕ → Option A) (before after : List ℕ → Option A) (there : (k : ℕ) → k < count → stored_at old (place k) ≡ before (index k)) (left_there : (k : ℕ) → k < count → stored_at new (place k) ≡ after (index k)) (first last : P) (items : List B) (changed : IsChangedBy (Replaces (Collects answers)) place count old new (first, []) (last, items)) where
    pub handed_answered : (seen : List ℕ → Option B) → ((k : ℕ) → k < count → seen (index k) ≡ slice_get items k) → HasAnswers (AnswersAt answers before) shape first (paired_at after seen)
    handed_answered seen shows = (
      last,
      (
        listed index count,
        listed_all numbered,
        ran_listed (AnswersThere (AnswersAt answers before) (paired_at after seen)) index first last count
            (ran_weaker (λ p k q. (out : A × B) × (stored_at new (place k) ≡ Some out.0) × (slice_get items k ≡ Some out.1) × answers p (stored_at old (place k)) out q) (λ p k q. AnswersThere (AnswersAt answers before) (paired_at after seen) p (index k) q) first last count
            (λ p k q below call. (call.0, (λ i. option_both (λ x y. (x, y)) ((sym (left_there k below) ∙ call.1) i) ((shows k below ∙ call.2) i)), subst (λ o. answers p o call.0 q) (there k below) call.3))
            (collects_items (λ k. stored_at old (place k)) (λ k. stored_at new (place k)) first count (last, items) changed.calls).1),
      ),
    )

    -- each index still has an element
    pub handed_there : (i : List ℕ) → in_box shape i ≡ true → is_some (after i) ≡ true
    handed_there i inbox =
        let k = rank i in
        let below = numbered.below i inbox in
        let call = ran_at (λ p k q. Replaces (Collects answers) (stored_at old (place k)) (stored_at new (place k)) p q) (first, []) (last, items) count k below changed.calls in
        ap is_some (ap after (sym (numbered.index_is i inbox)) ∙ (sym (left_there k below) ∙ call.2.1))

module _ {F A B : Type 0} (g : Mut F (MutBor A × Unit {0}) (B × (MutBor A × Unit {0}))) (shape : List ℕ) (old new : List ℕ → Option A) (seen : List ℕ → Option B) (f : F) (none : (i : List ℕ) → in_box shape i ≡ false → old i ≡ None) (has : HasAnswers (AnswersAt (LeavesAndAnswers g) old) shape f (paired_at new seen)) where
  -- where the closure leaves what h gives and stays as it is, h's values stand everywhere
  pub handed_left : (h : A → A) → LeavesBy g h f → ((i : List ℕ) → in_box shape i ≡ false → new i ≡ None) → (i : List ℕ) → new i ≡ option_map h (old i)
  handed_left h by nothing i = by_box (in_box shape i) refl
    where
      does : (j : List ℕ) (q : F) → in_box shape j ≡ true → AnswersThere (AnswersAt (LeavesAndAnswers g) old) (paired_at new seen) f j q → (q ≡ f) × (new j ≡ option_map h (old j))
      does j q inbox call =
          let step = call.2 in
          let gives = by step.0 call.0.0 call.0.1 q step.2 in
          (gives.0, (both_is (new j) (seen j) call.0 call.1).0 ∙ (ap Some gives.1 ∙ ap (option_map h) (sym step.1)))

      by_box : (b : Bool) → in_box shape i ≡ b → new i ≡ option_map h (old i)
      by_box true e = done_at_each shape (AnswersThere (AnswersAt (LeavesAndAnswers g) old) (paired_at new seen)) f (λ j. new j ≡ option_map h (old j)) does has.1.0 has.1.1 has.0 has.1.2 i e
      by_box false e = nothing i e ∙ ap (option_map h) (sym (none i e))

  -- and where it answers what h gives
  pub handed_seen : (h : A → B) → AnswersHandedBy g h f → ((i : List ℕ) → in_box shape i ≡ false → seen i ≡ None) → (i : List ℕ) → seen i ≡ option_map h (old i)
  handed_seen h by nothing i = by_box (in_box shape i) refl
    where
      does : (j : List ℕ) (q : F) → in_box shape j ≡ true → AnswersThere (AnswersAt (LeavesAndAnswers g) old) (paired_at new seen) f j q → (q ≡ f) × (seen j ≡ option_map h (old j))
      does j q inbox call =
          let step = call.2 in
          let gives = by step.0 call.0.0 call.0.1 q step.2 in
          (gives.0, (both_is (new j) (seen j) call.0 call.1).1 ∙ (ap Some gives.1 ∙ ap (option_map h) (sym step.1)))

      by_box : (b : Bool) → in_box shape i ≡ b → seen i ≡ option_map h (old i)
      by_box true e = done_at_each shape (AnswersThere (AnswersAt (LeavesAndAnswers g) old) (paired_at new seen)) f (λ j. seen j ≡ option_map h (old j)) does has.1.0 has.1.1 has.0 has.1.2 i e
      by_box false e = nothing i e ∙ ap (option_map h) (sym (none i e))
