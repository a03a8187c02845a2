-- What the calls of a closure have answered so far, by rank in an order; and what they answer together.
use Rattle.nd_elements.proofs.NamesFromOtherCrates.{◌≡◌, ℕ, zero, suc, ◌+◌, ◌<◌, Bool, true, false, List, [], ◌∷◌, ◌++◌, length, refl, ap, subst, ◌∙◌, arith, add-one, Option, None, Some, slice_get, if◌then◌else◌, FoldsTo, in_box, size_of, got_last, got_still, rank_in, index_in}
use Rattle.nd_elements.specs.ShapeAndElements.{inside}
use Rattle.nd_elements.specs.CallsInFreeOrder.{AnswersThere, HasAnswers, AskableInAnyOrder}
use Rattle.nd_elements.specs.ElementsByRank.{BuiltShape, found_by_rank}
use Rattle.nd_elements.proofs.BoolAndResultCases.{by_bool}
use Rattle.nd_elements.proofs.CallsInFreeOrder.{IsNumbering, listed, listed_part, listed_all, folds_weaker, folds_more, done_at_each}
use Rattle.nd_elements.proofs.IndexesNumberedInOrder.{order_numbers}

module _ {P A : Type 0} (answers : P → List ℕ → A → P → Type 0) (built : BuiltShape) where
  abbrev numbers : IsNumbering built.0 (size_of built.0) (index_in built.1 built.0) (rank_in built.1 built.0)
  numbers = order_numbers built.1 built.0

  -- the calls for the ranks below k answered the items
  pub record IsAnsweredTo (first : P) (items : List A) (k : ℕ) (now : P) : Type 0 where
    pub count : length items ≡ k
    pub calls : FoldsTo (AnswersThere answers (found_by_rank built items)) first (listed (index_in built.1 built.0) k) now

  pub answered_none : (first : P) (items : List A) → items ≡ [] → IsAnsweredTo first items 0 first
  answered_none first items none = record { count = ap length none; calls = refl }

  -- the next call may be made
  pub answered_next : (takes : P → List ℕ → Type 0) (first : P) (items : List A) (k : ℕ) (now : P) → k < size_of built.0 → AskableInAnyOrder answers built.0 takes first → IsAnsweredTo first items k now → takes now (index_in built.1 built.0 k)
  answered_next takes first items k now below askable so_far =
      askable (listed (index_in built.1 built.0) k) now (index_in built.1 built.0 k) (numbers.inside k below) (listed_part numbers k below) (folds_weaker (λ p i q call. (call.0, call.2)) (listed (index_in built.1 built.0) k) first now so_far.calls)

  pub answered_more : (first : P) (items new : List A) (k : ℕ) (now next : P) (y : A) → k < size_of built.0 → new ≡ items ++ y ∷ [] → answers now (index_in built.1 built.0 k) y next → IsAnsweredTo first items k now → IsAnsweredTo first new (k + 1) next
  answered_more first items new k now next y below is_new call so_far = rw (is_new, add-one k) (record {
    count = longer items k so_far.count;
    calls = folds_more (AnswersThere answers (found_by_rank built (items ++ y ∷ []))) (listed index k) (index k) first now next (folds_weaker still (listed index k) first now so_far.calls) (y, here, call);
  })
    where
      index : ℕ → List ℕ
      index = index_in built.1 built.0

      longer : (xs : List A) (k : ℕ) → length xs ≡ k → length (xs ++ y ∷ []) ≡ suc k
      longer [] k e = omega (arith, e)
      longer (x ∷ xs) zero e = absurd (omega (arith, e))
      longer (x ∷ xs) (suc k) e = ap suc (longer xs k (omega (arith, e)))

      here : found_by_rank built (items ++ y ∷ []) (index k) ≡ Some y
      here = rw (numbers.inside k below, numbers.rank_is k below) (got_last items y k so_far.count)

      found_still : (i : List ℕ) (x : A) (b : Bool) → (if b then slice_get items (rank_in built.1 built.0 i) else None) ≡ Some x → (if b then slice_get (items ++ y ∷ []) (rank_in built.1 built.0 i) else None) ≡ Some x
      found_still i x true e = got_still items (y ∷ []) (rank_in built.1 built.0 i) x e
      found_still i x false e = e

      still : (p : P) (i : List ℕ) (q : P) → AnswersThere answers (found_by_rank built items) p i q → AnswersThere answers (found_by_rank built (items ++ y ∷ [])) p i q
      still p i q call = (call.0, found_still i call.0 (in_box built.0 i) call.1, call.2)

  -- all ranks are through
  pub answered_all : (first : P) (items : List A) (k : ℕ) (last : P) → k ≡ size_of built.0 → IsAnsweredTo first items k last → HasAnswers answers built.0 first (found_by_rank built items)
  answered_all first items k last all so_far = (last, (listed (index_in built.1 built.0) (size_of built.0), listed_all numbers, subst (λ m. FoldsTo (AnswersThere answers (found_by_rank built items)) first (listed (index_in built.1 built.0) m) last) all so_far.calls))

-- the same answers, seen otherwise
pub answers_seen : {P A : Type 0} (answers : P → List ℕ → A → P → Type 0) (shape : List ℕ) (first : P) (at seen : List ℕ → Option A) → ((i : List ℕ) → seen i ≡ at i) → HasAnswers answers shape first at → HasAnswers answers shape first seen
answers_seen answers shape first at seen same has = (has.0, (has.1.0, has.1.1, folds_weaker (λ p i q call. (call.0, same i ∙ call.1, call.2)) has.1.0 first has.0 has.1.2))

-- where each call answers what h gives and leaves the closure as it was, h's values stand everywhere
pub answers_settled : {P A : Type 0} (answers : P → List ℕ → A → P → Type 0) (shape : List ℕ) (first : P) (at : List ℕ → Option A) (h : List ℕ → A)
    → ((i : List ℕ) (y : A) (q : P) → in_box shape i ≡ true → answers first i y q → (q ≡ first) × (y ≡ h i))
    → ((i : List ℕ) → in_box shape i ≡ false → at i ≡ None) → HasAnswers answers shape first at → (i : List ℕ) → at i ≡ inside shape i (Some (h i))
answers_settled answers shape first at h settles outside has i = by_bool (in_box shape i)
    (λ e. rw e (done_at_each shape (AnswersThere answers at) first (λ j. at j ≡ Some (h j)) does has.1.0 has.1.1 has.0 has.1.2 i e))
    (λ e. rw e (outside i e))
  where
    does : (j : List ℕ) (q : _) → in_box shape j ≡ true → AnswersThere answers at first j q → (q ≡ first) × (at j ≡ Some (h j))
    does j q inbox call = let by = settles j call.0 q inbox call.2 in (by.0, call.1 ∙ ap Some by.1)
