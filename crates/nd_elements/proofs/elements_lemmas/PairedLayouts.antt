-- Pairs that two layouts of one shape show, by their indexes and by the ranks of the places that a call was handed.
use Rattle.nd_elements.proofs.NamesFromOtherCrates.{◌≡◌, ℕ, ◌<◌, List, [], sym, subst, Option, RowMajor, Mut, Bor, slice_get, size_of, index_at, by_rank, Placement}
use Rattle.nd_elements.specs.StorageByLayout.{shown_at}
use Rattle.nd_elements.specs.CallsInFreeOrder.{AnswersAny, AskableInAnyOrder, HasAnswers, VisitedInSomeOrder}
use Rattle.nd_elements.specs.elements.ElementMaps.{AnswersAfter, AnswersAt, RanNumbered, TakesAt, TakesNumbered}
use Rattle.nd_elements.specs.elements.PairFolds.{FoldsPairsTo, TakesPairsInTurn}
use Rattle.nd_elements.specs.elements.PairMaps.{AnswersPair, MayBeShownPair, pair_of, pairs_at}
use Rattle.nd_elements.proofs.IndexesNumberedInOrder.{order_numbers}
use Rattle.nd_elements.proofs.elements_lemmas.MappedElements.{indexes_answered, indexes_taken, indexes_visited}
use Rattle.nd_elements.proofs.elements_lemmas.PairFolds.{folds_alike, turns_alike}
use Rattle.nd_elements.proofs.elements_lemmas.PairMaps.{pair_alike, second_there}

module _ {S Z A B : Type 0} (stored : S → ℕ → Option A) (others_stored : Z → ℕ → Option B) (s : S) (others : Z) {to one from two : Placement} (is_one : to ≡ one) (is_two : from ≡ two) (alike : two.lengths ≡ one.lengths) where
  abbrev shown : List ℕ → Option (A × B)
  shown i = pair_of (shown_at (stored s) one i) (shown_at (others_stored others) two i)

  abbrev found : Placement → Placement → ℕ → Option (A × B)
  found p q = pairs_at stored (by_rank p) s others_stored (by_rank q) others

  there : (k : ℕ) → k < size_of one.lengths → found one two k ≡ shown (index_at one.lengths k)
  there k below = pair_alike (second_there (stored s) one one (λ i. one.lengths) k below) (second_there (others_stored others) one two alike k below)

  module _ {F C : Type 0} (g : Mut F (Bor A × (Bor B × Unit {0})) C) (f : F) where
    pub layouts_askable : AskableInAnyOrder (AnswersAt (AnswersPair g) shown) one.lengths (TakesAt (MayBeShownPair g) shown) f → TakesNumbered (AnswersPair g) (MayBeShownPair g) (found to from) f (by_rank to).count
    layouts_askable askable =
        subst (λ p. TakesNumbered (AnswersPair g) (MayBeShownPair g) (found p from) f (by_rank p).count) (sym is_one)
        (subst (λ p. TakesNumbered (AnswersPair g) (MayBeShownPair g) (found one p) f (by_rank one).count) (sym is_two)
        (indexes_taken (AnswersPair g) (order_numbers RowMajor one.lengths) shown (found one two) there (MayBeShownPair g) f askable))

    pub layouts_answered : (items : List C) (last : F) → AnswersAfter (AnswersPair g) (found to from) (by_rank to).count [] items f last
        → (seen : List ℕ → Option C) → ((k : ℕ) → k < size_of one.lengths → seen (index_at one.lengths k) ≡ slice_get items k) → HasAnswers (AnswersAt (AnswersPair g) shown) one.lengths f seen
    layouts_answered items last answered seen shows =
        indexes_answered (AnswersPair g) (order_numbers RowMajor one.lengths) shown (found one two) there seen items shows f last
        (subst (λ p. AnswersAfter (AnswersPair g) (found p two) (by_rank p).count [] items f last) is_one
        (subst (λ p. AnswersAfter (AnswersPair g) (found to p) (by_rank to).count [] items f last) is_two answered))

    pub layouts_visited : (last : F) → RanNumbered (AnswersPair g) (found to from) f (by_rank to).count last → VisitedInSomeOrder one.lengths (AnswersAny (AnswersAt (AnswersPair g) shown)) f last
    layouts_visited last ran =
        indexes_visited (AnswersPair g) (order_numbers RowMajor one.lengths) shown (found one two) there f last
        (subst (λ p. RanNumbered (AnswersPair g) (found p two) f (by_rank p).count last) is_one
        (subst (λ p. RanNumbered (AnswersPair g) (found to p) f (by_rank to).count last) is_two ran))

  module _ {F T : Type 0} (g : Mut F (T × (Bor A × (Bor B × Unit {0}))) T) (first : F × T) where
    pub layouts_foldable : TakesPairsInTurn g (λ k. shown (index_at one.lengths k)) first (size_of one.lengths) → TakesPairsInTurn g (found to from) first (by_rank to).count
    layouts_foldable takes =
        subst (λ p. TakesPairsInTurn g (found p from) first (by_rank p).count) (sym is_one)
        (subst (λ p. TakesPairsInTurn g (found one p) first (by_rank one).count) (sym is_two)
        (turns_alike g (found one two) (λ k. shown (index_at one.lengths k)) (size_of one.lengths) there first takes))

    pub layouts_folded : (last : F × T) → FoldsPairsTo g (found to from) first (by_rank to).count last → FoldsPairsTo g (λ k. shown (index_at one.lengths k)) first (size_of one.lengths) last
    layouts_folded last ran =
        folds_alike g (found one two) (λ k. shown (index_at one.lengths k)) (size_of one.lengths) there first last
        (subst (λ p. FoldsPairsTo g (found p two) first (by_rank p).count last) is_one
        (subst (λ p. FoldsPairsTo g (found to p) first (by_rank to).count last) is_two ran))
