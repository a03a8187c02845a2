-- Calls for one element after another, with what they answered; and the same calls by index.
use Rattle.nd_elements.proofs.NamesFromOtherCrates.{◌≡◌, ℕ, zero, suc, ◌+◌, ◌<◌, ◌≤◌, true, false, List, [], ◌∷◌, ◌++◌, length, get_or, ℤ, pos, ◌+ℤ◌, refl, ap, sym, subst, ◌∙◌, arith, length-append, append-nil, append_assoc, Option, None, Some, slice_get, IfOk, Bor, Mut, FoldsTo, option_map, slice_get_read, add-zero, in_box, size_of, place_of, index_at, row_rank, RowMajor, in_box-index_at, got_still, got_after, IsRearranged, IsRejoined}
use Rattle.std.specs.declared.result.Result.{Result}
use Rattle.std.specs.declared.result.Result.TheVariants.{Ok, Err}
use Rattle.std.specs.Result.{OnErr}
use Rattle.nd_elements.specs.ShapeAndElements.{inside}
use Rattle.nd_elements.specs.StoragePlaces.{stored_at}
use Rattle.nd_elements.specs.CollectedElements.{stored_along, stored_by_rank}
use Rattle.nd_elements.specs.CallsInFreeOrder.{AnswersAny, AnswersThere, HasAnswers, VisitedInSomeOrder, AskableInAnyOrder}
use Rattle.nd_elements.specs.elements.ElementMaps.{AnswersElement, AnswersBy, AnswersValue, AnswersValuesBy, AnswersAt, TakesAt, AnswersSomehow, RanNumbered, TakesNumbered, AnswersAfter}
use Rattle.nd_elements.proofs.BoolAndResultCases.{by_bool}
use Rattle.nd_elements.proofs.CallsInFreeOrder.{IsNumbering, listed, listed_part, listed_all, done_at_each}
use Rattle.nd_elements.specs.ElementsByRank.{found_by_rank}
use Rattle.nd_elements.proofs.elements_lemmas.ElementsCollectedInOrder.{contiguous}
use Rattle.nd_elements.proofs.IndexesNumberedInOrder.{order_numbers}
use Rattle.nd_elements.proofs.NumberedCalls.{ran_more, ran_weaker, ran_then, ran_listed}

-- an item of a list, by its number
pub got_there : {A : Type 0} (xs : List A) (k : ℕ) (x : A) → k < length xs → x ≡ get_or xs k x → slice_get xs k ≡ Some x
got_there xs k x below e = slice_get_read xs (length xs) k x refl below e

pub got_item : {A : Type 0} (xs : List A) (k : ℕ) (o : Option A) → k < length xs → ((d : A) → o ≡ Some (get_or xs k d)) → slice_get xs k ≡ o
got_item [] k o below each = absurd (omega (arith, below))
got_item (x ∷ xs) zero o below each = sym (each x)
got_item (x ∷ xs) (suc k) o below each = got_item xs k o (omega (arith, below)) each

-- contiguous elements, as a slice
pub contiguous_found : {A : Type 0} (stored : ℕ → Option A) (place count : ℕ) (s : ℤ) → s ≡ pos 1 → (xs : List A) → length xs ≡ count → ((k : ℕ) (d : A) → k < count → stored (place + k) ≡ Some (get_or xs k d)) → (k : ℕ) → k < count → slice_get xs k ≡ stored_along stored place s k
contiguous_found stored place count s one xs long each k below = got_item xs k (stored_along stored place s k) (omega (arith, long, below)) (λ d. contiguous stored place k s one ∙ each k d below)

module _ {P A B : Type 0} (answers : P → Option A → B → P → Type 0) where
  -- one call more
  pub ran_one_more : (found : ℕ → Option A) (first mid last : P) (k : ℕ) (y : B) → RanNumbered answers found first k mid → answers mid (found k) y last → RanNumbered answers found first (k + 1) last
  ran_one_more found first mid last k y run call = ran_more (λ p j q. AnswersSomehow answers p (found j) q) first mid last k run (y, call)

  pub after_none : (found : ℕ → Option A) (old : List B) (first : P) → AnswersAfter answers found 0 old old first first
  after_none found old first = record { after = []; whole = sym (append-nil old); many = refl; calls = refl }

  -- whatever they answered
  pub after_ran : (found : ℕ → Option A) (count : ℕ) (old new : List B) (first last : P) → AnswersAfter answers found count old new first last → RanNumbered answers found first count last
  after_ran found count old new first last done =
      ran_weaker (λ p k q. (y : B) × (slice_get done.after k ≡ Some y) × answers p (found k) y q) (λ p k q. AnswersSomehow answers p (found k) q) first last count (λ p k q below call. (call.0, call.2)) done.calls

  -- the same of elements that are found otherwise
  pub after_alike : (found other : ℕ → Option A) (count : ℕ) → ((k : ℕ) → k < count → found k ≡ other k) → (old new : List B) (first last : P) → AnswersAfter answers found count old new first last → AnswersAfter answers other count old new first last
  after_alike found other count same old new first last done = record {
    after = done.after;
    whole = done.whole;
    many = done.many;
    calls = ran_weaker (λ p k q. (y : B) × (slice_get done.after k ≡ Some y) × answers p (found k) y q) (λ p k q. (y : B) × (slice_get done.after k ≡ Some y) × answers p (other k) y q) first last count
        (λ p k q below call. (call.0, call.1, subst (λ o. answers p o call.0 q) (same k below) call.2)) done.calls;
  }

  pub takes_alike : (takes : P → Option A → Type 0) (found other : ℕ → Option A) (count : ℕ) → ((k : ℕ) → k < count → found k ≡ other k) → (first : P) → TakesNumbered answers takes other first count → TakesNumbered answers takes found first count
  takes_alike takes found other count same first may k now below run =
      subst (takes now) (sym (same k below))
      (may k now below
      (ran_weaker (λ p j q. AnswersSomehow answers p (found j) q) (λ p j q. AnswersSomehow answers p (other j) q) first now k
      (λ p j q under call. (call.0, subst (λ o. answers p o call.0 q) (same j (omega (arith, under, below))) call.1)) run))

  -- elements numbered from k on, after those below it
  module _ (found later : ℕ → Option A) (k count : ℕ) (goes_on : (j : ℕ) → j < count → later j ≡ found (k + j)) where
    pub ran_later : (first mid last : P) → RanNumbered answers found first k mid → RanNumbered answers later mid count last → RanNumbered answers found first (k + count) last
    ran_later first mid last run afterwards =
        ran_then (λ p j q. AnswersSomehow answers p (found j) q) (λ p j q. AnswersSomehow answers p (later j) q) first mid last k count
        (λ p j q below call. subst (λ o. AnswersSomehow answers p o q) (goes_on j below) call) run afterwards

    pub after_then : (old now new : List B) (first mid last : P) → AnswersAfter answers found k old now first mid → AnswersAfter answers later count now new mid last → AnswersAfter answers found (k + count) old new first last
    after_then old now new first mid last so_far afterwards = record {
      after = so_far.after ++ afterwards.after;
      whole = afterwards.whole ∙ (ap (λ xs. xs ++ afterwards.after) so_far.whole ∙ append_assoc old so_far.after afterwards.after);
      many = (let whole = length-append so_far.after afterwards.after in let one = so_far.many in let other = afterwards.many in omega (arith, whole, one, other));
      calls = ran_then (λ p j q. (y : B) × (slice_get (so_far.after ++ afterwards.after) j ≡ Some y) × answers p (found j) y q) (λ p j q. (y : B) × (slice_get afterwards.after j ≡ Some y) × answers p (later j) y q) first mid last k count
          (λ p j q below call. (call.0, got_after so_far.after afterwards.after k j so_far.many ∙ call.1, subst (λ o. answers p o call.0 q) (goes_on j below) call.2))
          (ran_weaker (λ p j q. (y : B) × (slice_get so_far.after j ≡ Some y) × answers p (found j) y q) (λ p j q. (y : B) × (slice_get (so_far.after ++ afterwards.after) j ≡ Some y) × answers p (found j) y q) first mid k
          (λ p j q below call. (call.0, got_still so_far.after afterwards.after j call.0 call.1, call.2)) so_far.calls)
          afterwards.calls;
    }

  -- the calls after the first k may be made
  pub takes_later : (takes : P → Option A → Type 0) (found later : ℕ → Option A) (k count n : ℕ) → k + count ≤ n → ((j : ℕ) → j < count → later j ≡ found (k + j)) → (first mid : P)
      → RanNumbered answers found first k mid → TakesNumbered answers takes found first n → TakesNumbered answers takes later mid count
  takes_later takes found later k count n within goes_on first mid run may j now below afterwards =
      subst (takes now) (sym (goes_on j below))
      (may (k + j) now (omega (arith, below, within)) (ran_later found later k j (λ i under. goes_on i (omega (arith, under, below))) first mid now run afterwards))

  -- one element more
  pub after_more : (found : ℕ → Option A) (k : ℕ) (old now new : List B) (first mid last : P) (y : B) → new ≡ now ++ y ∷ [] → answers mid (found k) y last → AnswersAfter answers found k old now first mid → AnswersAfter answers found (k + 1) old new first last
  after_more found k old now new first mid last y whole call so_far =
      after_then found (λ j. found (k + j)) k 1 (λ j below. refl) old now new first mid last so_far
      (record { after = y ∷ []; whole = whole; many = refl; calls = (mid, refl, (y, refl, subst (λ n. answers mid (found n) y last) (sym (add-zero k)) call)) })

-- the same by index
module _ {P A B : Type 0} (answers : P → Option A → B → P → Type 0) {shape : List ℕ} {count : ℕ} {index : ℕ → List ℕ} {rank : List ℕ → ℕ} (numbered : IsNumbering shape count index rank) (at : List ℕ → Option A) (found : ℕ → Option A) (same : (k : ℕ) → k < count → found k ≡ at (index k)) where
  ran_indexes : (first last : P) (k : ℕ) → k < count + 1 → RanNumbered answers found first k last → FoldsTo (AnswersAny (AnswersAt answers at)) first (listed index k) last
  ran_indexes first last k within run =
      ran_listed (AnswersAny (AnswersAt answers at)) index first last k
      (ran_weaker (λ p j q. AnswersSomehow answers p (found j) q) (λ p j q. AnswersAny (AnswersAt answers at) p (index j) q) first last k
      (λ p j q below call. (call.0, subst (λ o. answers p o call.0 q) (same j (omega (arith, below, within))) call.1)) run)

  -- where a call may be made for each index in any order, one may be made for each number
  pub indexes_taken : (takes : P → Option A → Type 0) (first : P) → AskableInAnyOrder (AnswersAt answers at) shape (TakesAt takes at) first → TakesNumbered answers takes found first count
  indexes_taken takes first askable k now below run =
      subst (takes now) (sym (same k below)) (askable (listed index k) now (index k) (numbered.inside k below) (listed_part numbered k below) (ran_indexes first now k (omega (arith, below)) run))

  pub indexes_visited : (first last : P) → RanNumbered answers found first count last → VisitedInSomeOrder shape (AnswersAny (AnswersAt answers at)) first last
  indexes_visited first last run = (listed index count, listed_all numbered, ran_indexes first last count (omega arith) run)

  pub indexes_answered : (seen : List ℕ → Option B) (items : List B) → ((k : ℕ) → k < count → seen (index k) ≡ slice_get items k) → (first last : P) → AnswersAfter answers found count [] items first last → HasAnswers (AnswersAt answers at) shape first seen
  indexes_answered seen items shows first last done = (
    last,
    (
      listed index count,
      listed_all numbered,
      ran_listed (AnswersThere (AnswersAt answers at) seen) index first last count
          (ran_weaker (λ p k q. (y : B) × (slice_get done.after k ≡ Some y) × answers p (found k) y q) (λ p k q. AnswersThere (AnswersAt answers at) seen p (index k) q) first last count
          (λ p k q below call. (call.0, shows k below ∙ (ap (λ xs. slice_get xs k) done.whole ∙ call.1), subst (λ o. answers p o call.0 q) (same k below) call.2)) done.calls),
    ),
  )

-- what lies at the place of a rank of a rearranged layout is the element at its index
pub rearranged_there : {A : Type 0} (stored : ℕ → Option A) (offset : ℕ) (ns : List ℕ) (ss : List ℤ) (to : ℕ) (ms : List ℕ) (ts : List ℤ) (by : IsRearranged offset ns ss to ms ts)
    → (rank : ℕ) → rank < size_of ms → stored_by_rank stored to ms ts rank ≡ inside ns (by.index_of rank) (stored_at stored (place_of offset ss (by.index_of rank)))
rearranged_there stored offset ns ss to ms ts by rank below = rw (by.within rank below) (ap (stored_at stored) (by.same rank below))

-- a layout whose axes were joined numbers the indexes by their row-major rank, and what lies at the place of a rank is
-- the element at its index
module _ (ns : List ℕ) (ss : List ℤ) (ms : List ℕ) (ts : List ℤ) (joined : IsRejoined ns ss ms ts) where
  pub joined_numbers : IsNumbering ns (size_of ms) (index_at ns) (row_rank ns)
  joined_numbers = subst (λ n. IsNumbering ns n (index_at ns) (row_rank ns)) (sym joined.size) (order_numbers RowMajor ns)

  pub joined_there : {A : Type 0} (stored : ℕ → Option A) (offset start : ℕ) → start ≡ offset → (rank : ℕ) → rank < size_of ms → stored_by_rank stored start ms ts rank ≡ inside ns (index_at ns rank) (stored_at stored (place_of offset ss (index_at ns rank)))
  joined_there stored offset start from rank below =
      let under : rank < size_of ns = omega (arith, below, joined.size) in
      rw (in_box-index_at ns rank under) (λ k. stored_at stored (pos (from k) +ℤ joined.same rank under k))

  -- items in row-major order, by their rank
  pub joined_shows : {A : Type 0} (items : List A) (k : ℕ) → k < size_of ms → found_by_rank (ns, RowMajor) items (index_at ns k) ≡ slice_get items k
  joined_shows items k below = rw (joined_numbers.inside k below, joined_numbers.rank_is k below) refl

-- where each answer is what h gives and the closure stays as it is, h's values stand everywhere
pub answers_alike : {P A B : Type 0} (answers : P → Option A → B → P → Type 0) (shape : List ℕ) (at : List ℕ → Option A) (seen : List ℕ → Option B) (first : P) (h : A → B)
    → ((o : Option A) (y : B) (q : P) → answers first o y q → (q ≡ first) × (Some y ≡ option_map h o))
    → ((i : List ℕ) → in_box shape i ≡ false → seen i ≡ None) → ((i : List ℕ) → in_box shape i ≡ false → at i ≡ None) → HasAnswers (AnswersAt answers at) shape first seen → (i : List ℕ) → seen i ≡ option_map h (at i)
answers_alike answers shape at seen first h by nothing none has i = by_bool (in_box shape i)
    (λ e. done_at_each shape (AnswersThere (AnswersAt answers at) seen) first (λ j. seen j ≡ option_map h (at j)) does has.1.0 has.1.1 has.0 has.1.2 i e)
    (λ e. nothing i e ∙ ap (option_map h) (sym (none i e)))
  where
    does : (j : List ℕ) (q : _) → in_box shape j ≡ true → AnswersThere (AnswersAt answers at) seen first j q → (q ≡ first) × (seen j ≡ option_map h (at j))
    does j q inbox call = let gives = by (at j) call.0 q call.2 in (gives.0, call.1 ∙ gives.1)

pub element_by : {F A B : Type 0} (g : Mut F (Bor A × Unit {0}) B) (h : A → B) (f : F) → AnswersBy g h f → (o : Option A) (y : B) (q : F) → AnswersElement g f o y q → (q ≡ f) × (Some y ≡ option_map h o)
element_by g h f by o y q call = let gives = by call.0 y q call.2 in (gives.0, ap Some gives.1 ∙ ap (option_map h) (sym call.1))

pub value_by : {F A B : Type 0} (g : Mut F (A × Unit {0}) B) (h : A → B) (f : F) → AnswersValuesBy g h f → (o : Option A) (y : B) (q : F) → AnswersValue g f o y q → (q ≡ f) × (Some y ≡ option_map h o)
value_by g h f by o y q call = let gives = by call.0 y q call.2 in (gives.0, ap Some gives.1 ∙ ap (option_map h) (sym call.1))

-- of an answer two facts give a third
pub ok_from_both : {T E : Type 0} (P Q R : T → Type 0) → ((x : T) → P x → Q x → R x) → (r : Result T E) → IfOk r P → IfOk r Q → IfOk r R
ok_from_both P Q R both (Ok x) p q = both x p q
ok_from_both P Q R both (Err e) p q = tt

pub on_err_from : {T E : Type 0} (P : Type 0) (r : Result T E) → P → OnErr r P
on_err_from P (Ok x) p = tt
on_err_from P (Err e) p = p
