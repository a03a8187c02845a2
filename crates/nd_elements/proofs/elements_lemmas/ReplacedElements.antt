-- Elements exchanged for what calls answered, one place after another; and the same by index.
use Rattle.nd_elements.proofs.NamesFromOtherCrates.{◌≡◌, ℕ, zero, suc, ◌+◌, ◌<◌, ◌≤◌, Bool, true, List, ℤ, pos, negsuc, refl, ap, sym, subst, ◌∙◌, arith, inl, inr, nat_tests, unsigned_Decides, ◌⊎◌, ◌&&◌, Option, Some, is_some, nat_eq, nat_lt, if◌then◌else◌, option_map, in_box, size_of, place_of, place_at_rank, IsRearranged}
use Rattle.nd_elements.specs.ShapeAndElements.{inside}
use Rattle.nd_elements.specs.StoragePlaces.{stored_at, names_place, written_at, HoldsAll}
use Rattle.nd_elements.specs.CallsInFreeOrder.{AnswersThere, HasAnswers}
use Rattle.nd_elements.specs.ElementBorrowEnds.{KeepsPlaces}
use Rattle.nd_elements.specs.elements.ElementChanges.{AreDistinct, IsChangedBy}
use Rattle.nd_elements.specs.elements.ElementMaps.{AnswersAt, AnswersSomehow, RanNumbered, TakesNumbered, Replaces, HasSomeAnswers, IsOldOrMapped}
use Rattle.nd_elements.proofs.BoolAndResultCases.{by_bool, by_value}
use Rattle.nd_elements.proofs.CallsInFreeOrder.{times, times_head, once_if, listed, listed_part, listed_all, count_listed, done_along}
pub use Rattle.nd_elements.proofs.elements_lemmas.ElementsHandedToBeWritten.{ranks_apart}
use Rattle.nd_elements.proofs.elements_lemmas.ElementsHandedToBeWritten.{stored_same, still_there}
use Rattle.nd_elements.proofs.elements_lemmas.FoldCallsByIndex.{rearranged_numbers}
use Rattle.nd_elements.proofs.elements_lemmas.MappedElements.{takes_later, rearranged_there}
use Rattle.nd_elements.proofs.NumberedCalls.{ran_weaker, ran_listed}
use Rattle.nd_elements.proofs.RewrittenElements.{next_there}

-- what a write leaves
module _ {A : Type 0} (now new : ℕ → Option A) (p : ℕ) (x : A) (is : (q : ℕ) → new q ≡ written_at now p x q) where
  pub written_here : new p ≡ Some x
  written_here = is p ∙ ap (λ t. if t then Some x else now p) ((unsigned_Decides p p).1 refl)

  pub written_elsewhere : (q : ℕ) → (q ≡ p → ⊥) → new q ≡ now q
  written_elsewhere q other = is q ∙ by_value (λ t. (if t then Some x else now q) ≡ now q) (nat_eq q p) (λ e. absurd (other ((unsigned_Decides q p).0 e))) (λ e. refl)

  pub written_keeps : (old : ℕ → Option A) → KeepsPlaces old now → KeepsPlaces old new
  written_keeps old keeps q has = ap is_some (is q) ∙ by_value (λ t. is_some (if t then Some x else now q) ≡ true) (nat_eq q p) (λ e. refl) (λ e. keeps q has)

-- where each place still holds something, each index does
pub still_holds_all : {A : Type 0} (old new : ℕ → Option A) (offset : ℕ) (ns : List ℕ) (ss : List ℤ) → KeepsPlaces old new → HoldsAll old offset ns ss → HoldsAll new offset ns ss
still_holds_all old new offset ns ss keeps holds i h = by_sign (place_of offset ss i) (holds i h)
  where
    by_sign : (z : ℤ) → names_place old z ≡ true → names_place new z ≡ true
    by_sign (pos p) has = keeps p has
    by_sign (negsuc p) has = has

module _ {P A : Type 0} (answers : P → Option A → A → P → Type 0) where
  -- whatever they answered
  pub replaced_ran : (place : ℕ → ℤ) (count : ℕ) (old new : ℕ → Option A) (first last : P) → IsChangedBy (Replaces answers) place count old new first last → RanNumbered answers (λ k. stored_at old (place k)) first count last
  replaced_ran place count old new first last done =
      ran_weaker (λ p k q. Replaces answers (stored_at old (place k)) (stored_at new (place k)) p q) (λ p k q. AnswersSomehow answers p (stored_at old (place k)) q) first last count (λ p k q below call. (call.0, call.2)) done.calls

  -- the next place holds what it held
  pub still_next : (place : ℕ → ℤ) (n k : ℕ) → k < n → AreDistinct place n → (old now : ℕ → Option A) (first mid : P) → IsChangedBy (Replaces answers) place k old now first mid → stored_at now (place k) ≡ stored_at old (place k)
  still_next = next_there (λ _. Replaces answers)

  -- the calls for the next places may be made
  pub replaced_takes : (takes : P → Option A → Type 0) (place lane : ℕ → ℤ) (k count n : ℕ) → k + count ≤ n → AreDistinct place n → ((j : ℕ) → j < count → lane j ≡ place (k + j)) → (old now : ℕ → Option A) (first mid : P)
      → IsChangedBy (Replaces answers) place k old now first mid → TakesNumbered answers takes (λ j. stored_at old (place j)) first n → TakesNumbered answers takes (λ j. stored_at now (lane j)) mid count
  replaced_takes takes place lane k count n within apart goes_on old now first mid so_far may =
      takes_later answers takes (λ j. stored_at old (place j)) (λ j. stored_at now (lane j)) k count n within
      (still_there (Replaces answers) place lane k count n within apart goes_on old now now first mid mid so_far) first mid (replaced_ran place k old now first mid so_far) may

  -- the same by index
  module _ (offset : ℕ) (ns : List ℕ) (ss : List ℤ) (to : ℕ) (ms : List ℕ) (ts : List ℤ) (by : IsRearranged offset ns ss to ms ts) where
    abbrev at : (ℕ → Option A) → List ℕ → Option A
    at stored i = inside ns i (stored_at stored (place_of offset ss i))

    there_calls : (old new : ℕ → Option A) (p : P) (k : ℕ) (q : P) → k < size_of ms → Replaces answers (stored_at old (place_at_rank to ms ts k)) (stored_at new (place_at_rank to ms ts k)) p q → AnswersThere (AnswersAt answers (at old)) (at new) p (by.index_of k) q
    there_calls old new p k q below call =
        (call.0, sym (rearranged_there new offset ns ss to ms ts by k below) ∙ call.1, subst (λ o. answers p o call.0 q) (rearranged_there old offset ns ss to ms ts by k below) call.2)

    pub replaced_all : (old new : ℕ → Option A) (f last : P) → IsChangedBy (Replaces answers) (place_at_rank to ms ts) (size_of ms) old new f last → HasAnswers (AnswersAt answers (at old)) ns f (at new)
    replaced_all old new f last done = (
      last,
      (
        listed by.index_of (size_of ms),
        listed_all (rearranged_numbers offset ns ss to ms ts by),
        ran_listed (AnswersThere (AnswersAt answers (at old)) (at new)) by.index_of f last (size_of ms)
            (ran_weaker (λ p k q. Replaces answers (stored_at old (place_at_rank to ms ts k)) (stored_at new (place_at_rank to ms ts k)) p q) (λ p k q. AnswersThere (AnswersAt answers (at old)) (at new) p (by.index_of k) q) f last (size_of ms)
            (there_calls old new) done.calls),
      ),
    )

    module _ (apart : (i j : List ℕ) → in_box ns i ≡ true → in_box ns j ≡ true → place_of offset ss i ≡ place_of offset ss j → i ≡ j) (old new : ℕ → Option A) (f last : P) (k : ℕ) (below : k < size_of ms) (done : IsChangedBy (Replaces answers) (place_at_rank to ms ts) k old new f last) where
      kept_where : (i : List ℕ) → times i (listed by.index_of k) ≡ 0 → at new i ≡ at old i
      kept_where i none = by_bool (in_box ns i) (λ h. ap (inside ns i) (stored_same old new (place_of offset ss i) (same_place h))) (λ h. rw h refl)
        where
          counted : (u : Bool) → in_box ns i ≡ u → times i (listed by.index_of k) ≡ once_if (u && nat_lt (by.rank_of i) k)
          counted u e = count_listed (rearranged_numbers offset ns ss to ms ts by) k (omega (arith, below)) i ∙ ap (λ b. once_if (b && nat_lt (by.rank_of i) k)) e

          later : in_box ns i ≡ true → (j : ℕ) → j < k → by.rank_of i ≡ j → ⊥
          later h j under same =
              let yes : nat_lt (by.rank_of i) k ≡ true = grind (arith, nat_tests, same, under) in
              omega (arith, counted true h ∙ ap once_if yes, none)

          same_place : in_box ns i ≡ true → (p : ℕ) → place_of offset ss i ≡ pos p → new p ≡ old p
          same_place h p e = done.left p (λ j under at_p.
              let inner : j < size_of ms = omega (arith, under, below) in
              later h j under (ap by.rank_of (apart i (by.index_of j) h (by.within j inner) (e ∙ (sym at_p ∙ by.same j inner))) ∙ by.there j inner))

      pub replaced_part : HasSomeAnswers answers ns f (at old) (at new)
      replaced_part = (
        listed by.index_of k,
        last,
        (λ i. let whole = listed_part (rearranged_numbers offset ns ss to ms ts by) k below i in let counted = times_head i (by.index_of k) (listed by.index_of k) in omega (arith, whole, counted)),
        ran_listed (AnswersThere (AnswersAt answers (at old)) (at new)) by.index_of f last k
            (ran_weaker (λ p j q. Replaces answers (stored_at old (place_at_rank to ms ts j)) (stored_at new (place_at_rank to ms ts j)) p q) (λ p j q. AnswersThere (AnswersAt answers (at old)) (at new) p (by.index_of j) q) f last k
            (λ p j q under. there_calls old new p j q (omega (arith, under, below))) done.calls),
        kept_where,
      )

  -- where each answer is what h gives and the closure stays as it is, h's values stand where the old elements don't
  pub old_or_mapped : (shape : List ℕ) (first : P) (old new : List ℕ → Option A) (h : A → A) → ((o : Option A) (y : A) (q : P) → answers first o y q → (q ≡ first) × (Some y ≡ option_map h o)) → HasSomeAnswers answers shape first old new → IsOldOrMapped h old new
  old_or_mapped shape first old new h by some i = by_times (times i some.0) refl
    where
      does : (j : List ℕ) (q : P) → in_box shape j ≡ true → AnswersThere (AnswersAt answers old) new first j q → (q ≡ first) × (new j ≡ option_map h (old j))
      does j q inbox call = let gives = by (old j) call.0 q call.2 in (gives.0, call.1 ∙ gives.1)

      within : (j : List ℕ) → 0 < times j some.0 → in_box shape j ≡ true
      within j more = by_bool (in_box shape j) (λ h. h) (λ h. let most : times j some.0 ≤ 0 = subst (λ u. times j some.0 ≤ (if u then 1 else 0)) h (some.2 j) in absurd (omega (arith, most, more)))

      by_times : (n : ℕ) → times i some.0 ≡ n → (new i ≡ old i) ⊎ (new i ≡ option_map h (old i))
      by_times zero none = inl (some.4 i none)
      by_times (suc n) e = inr (done_along shape (AnswersThere (AnswersAt answers old) new) first (λ j. new j ≡ option_map h (old j)) does some.0 within first some.1 refl some.3 i (omega (arith, e)))
