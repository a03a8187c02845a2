-- Elements handed out to be written, one place after another.
use Rattle.nd_elements.proofs.NamesFromOtherCrates.{◌≡◌, ℕ, ◌+◌, ◌<◌, ◌≤◌, true, false, List, ℤ, pos, refl, ap, sym, subst, ◌∙◌, arith, Option, None, Some, is_some, MutBor, Mut, option_map, in_box, size_of, place_of, place_at_rank, IsRearranged}
use Rattle.nd_elements.specs.ShapeAndElements.{inside}
use Rattle.nd_elements.specs.StoragePlaces.{stored_at, names_place, HoldsAll}
use Rattle.nd_elements.specs.elements.ElementChanges.{AreDistinct, IsChangedBy, ChangesElement, ChangesSomehow, TakesElementMut, IsChangedTo, TakesPlacesMut, ChangesBy, ChangesAll, ChangeableInAnyOrder}
use Rattle.nd_elements.proofs.BoolAndResultCases.{by_bool}
use Rattle.nd_elements.proofs.CallsInFreeOrder.{listed, listed_part, listed_all, done_at_each}
use Rattle.nd_elements.proofs.elements_lemmas.FoldCallsByIndex.{rearranged_numbers}
use Rattle.nd_elements.proofs.NumberedCalls.{ran_at, ran_weaker, ran_listed}
pub use Rattle.nd_elements.proofs.RewrittenElements.{stored_same}
use Rattle.nd_elements.proofs.RewrittenElements.{rewritten_none, rewritten_then, rewritten_more, rewrites_next, still_rewritten}

module _ {P A : Type 0} (call : Option A → Option A → P → P → Type 0) where
  pub changed_none : (place : ℕ → ℤ) (old : ℕ → Option A) (f : P) → IsChangedBy call place 0 old old f f
  changed_none = rewritten_none (λ _. call)

  -- places handed out after the first k, the next ones
  pub still_there : (place lane : ℕ → ℤ) (k count n : ℕ) → k + count ≤ n → AreDistinct place n → ((j : ℕ) → j < count → lane j ≡ place (k + j)) → (old now new : ℕ → Option A) (first mid last : P) → IsChangedBy call place k old now first mid → (j : ℕ) → j < count → stored_at now (lane j) ≡ stored_at old (place (k + j))
  still_there = still_rewritten (λ _. call)

  pub changed_then : (place lane : ℕ → ℤ) (k count n : ℕ) → k + count ≤ n → AreDistinct place n → ((j : ℕ) → j < count → lane j ≡ place (k + j)) → (old now new : ℕ → Option A) (first mid last : P) → IsChangedBy call place k old now first mid → IsChangedBy call lane count now new mid last → IsChangedBy call place (k + count) old new first last
  changed_then place lane k count n within apart goes_on old now new first mid last so_far = rewritten_then (λ _. call) place lane k count n within apart goes_on old now new first mid last so_far (λ _. call) (λ j o w p q below step. step)

  -- one place more
  pub changed_more : (place : ℕ → ℤ) (k n p : ℕ) → k < n → AreDistinct place n → pos p ≡ place k → (old now new : ℕ → Option A) (first mid last : P) → IsChangedBy call place k old now first mid
      → call (now p) (new p) mid last → ((q : ℕ) → (q ≡ p → ⊥) → new q ≡ now q) → IsChangedBy call place (k + 1) old new first last
  changed_more = rewritten_more (λ _. call)

module _ {F A : Type 0} (g : Mut F (MutBor A × Unit {0}) (Unit {0} × (MutBor A × Unit {0}))) where
  -- whatever they left
  pub change_somehow : (old new : Option A) (p q : F) → ChangesElement g old new p q → ChangesSomehow g old p q
  change_somehow old new p q call = (call.0, call.1, call.2, call.4)

  -- the next calls may be made
  pub takes_next : (place lane : ℕ → ℤ) (k count n : ℕ) → k + count ≤ n → AreDistinct place n → ((j : ℕ) → j < count → lane j ≡ place (k + j)) → (old now : ℕ → Option A) (first mid : F)
      → IsChangedTo g place k old now first mid → TakesPlacesMut g old place first n → TakesPlacesMut g now lane mid count
  takes_next place lane k count n within apart goes_on old now first mid so_far takes j state below run x is =
      takes (k + j) state (omega (arith, below, within))
      (rewrites_next (λ _. ChangesElement g) place lane k count n within apart goes_on old now now first mid mid so_far (λ _. ChangesSomehow g) (λ _. ChangesSomehow g) (λ j. change_somehow) (λ j o p q under call. call) j state below run) x
      (sym (still_there (ChangesElement g) place lane k count n within apart goes_on old now now first mid mid so_far j below) ∙ is)

  -- the call for the place after those so far may be made
  pub next_taken : (place : ℕ → ℤ) (n k : ℕ) → k < n → AreDistinct place n → (old now : ℕ → Option A) (first mid : F) → IsChangedTo g place k old now first mid → TakesPlacesMut g old place first n → TakesElementMut g (stored_at now (place k)) mid
  next_taken place n k below apart old now first mid so_far takes x is =
      let here : k + 0 ≡ k = omega arith in
      takes_next place (λ j. place (k + j)) k 1 n (omega (arith, below)) apart (λ j under. refl) old now first mid so_far takes 0 mid (omega arith) refl x (ap (λ m. stored_at now (place m)) here ∙ is)

-- distinct indexes have distinct places, and so have distinct ranks of a rearranged layout
pub ranks_apart : (offset : ℕ) (ns : List ℕ) (ss : List ℤ) (to : ℕ) (ms : List ℕ) (ts : List ℤ) (by : IsRearranged offset ns ss to ms ts)
    → ((i j : List ℕ) → in_box ns i ≡ true → in_box ns j ≡ true → place_of offset ss i ≡ place_of offset ss j → i ≡ j) → AreDistinct (place_at_rank to ms ts) (size_of ms)
ranks_apart offset ns ss to ms ts by apart j k under below same =
    sym (by.there j under) ∙ (ap by.rank_of (apart (by.index_of j) (by.index_of k) (by.within j under) (by.within k below) (sym (by.same j under) ∙ (same ∙ by.same k below))) ∙ by.there k below)

-- the same by indexes
module _ {F A : Type 0} (g : Mut F (MutBor A × Unit {0}) (Unit {0} × (MutBor A × Unit {0}))) (offset : ℕ) (ns : List ℕ) (ss : List ℤ) (to : ℕ) (ms : List ℕ) (ts : List ℤ) (by : IsRearranged offset ns ss to ms ts) where
  abbrev at : (ℕ → Option A) → List ℕ → Option A
  at stored i = inside ns i (stored_at stored (place_of offset ss i))

  there : (stored : ℕ → Option A) (rank : ℕ) → rank < size_of ms → stored_at stored (place_at_rank to ms ts rank) ≡ at stored (by.index_of rank)
  there stored rank below = rw (by.within rank below) (ap (stored_at stored) (by.same rank below))

  pub ranks_distinct : ((i j : List ℕ) → in_box ns i ≡ true → in_box ns j ≡ true → place_of offset ss i ≡ place_of offset ss j → i ≡ j) → AreDistinct (place_at_rank to ms ts) (size_of ms)
  ranks_distinct = ranks_apart offset ns ss to ms ts by

  -- each index still has an element
  pub changed_holds : (old new : ℕ → Option A) (f last : F) → IsChangedTo g (place_at_rank to ms ts) (size_of ms) old new f last → HoldsAll new offset ns ss
  changed_holds old new f last changed i inbox =
      let call = ran_at (λ p k q. ChangesElement g (stored_at old (place_at_rank to ms ts k)) (stored_at new (place_at_rank to ms ts k)) p q) f last (size_of ms) (by.rank_of i) (by.below i inbox) changed.calls in
      let here : place_at_rank to ms ts (by.rank_of i) ≡ place_of offset ss i = by.same (by.rank_of i) (by.below i inbox) ∙ ap (place_of offset ss) (by.back i inbox) in
      ap (names_place new) (sym here) ∙ ap is_some call.2.3

  pub places_changeable : (stored : ℕ → Option A) (f : F) → ChangeableInAnyOrder g ns (at stored) f → TakesPlacesMut g stored (place_at_rank to ms ts) f (size_of ms)
  places_changeable stored f askable k now below run x is =
      askable (listed by.index_of k) now (by.index_of k) (by.within k below) (listed_part (rearranged_numbers offset ns ss to ms ts by) k below)
      (ran_listed (λ p i q. ChangesSomehow g (at stored i) p q) by.index_of f now k
      (ran_weaker (λ p j q. ChangesSomehow g (stored_at stored (place_at_rank to ms ts j)) p q) (λ p j q. ChangesSomehow g (at stored (by.index_of j)) p q) f now k
      (λ p j q under call. subst (λ o. ChangesSomehow g o p q) (there stored j (omega (arith, under, below))) call) run)) x
      (sym (there stored k below) ∙ is)

  pub changes_all : (old new : ℕ → Option A) (f last : F) → IsChangedTo g (place_at_rank to ms ts) (size_of ms) old new f last → ChangesAll g ns (at old) (at new) f
  changes_all old new f last changed = (
    last,
    (
      listed by.index_of (size_of ms),
      listed_all (rearranged_numbers offset ns ss to ms ts by),
      ran_listed (λ p i q. ChangesElement g (at old i) (at new i) p q) by.index_of f last (size_of ms)
          (ran_weaker (λ p k q. ChangesElement g (stored_at old (place_at_rank to ms ts k)) (stored_at new (place_at_rank to ms ts k)) p q) (λ p k q. ChangesElement g (at old (by.index_of k)) (at new (by.index_of k)) p q) f last (size_of ms)
          (λ p k q below call. subst (λ o. ChangesElement g (at old (by.index_of k)) o p q) (there new k below) (subst (λ o. ChangesElement g o (stored_at new (place_at_rank to ms ts k)) p q) (there old k below) call)) changed.calls),
    ),
  )

-- where the closure leaves what h gives and stays as it is, h's values stand everywhere
module _ {F A : Type 0} (g : Mut F (MutBor A × Unit {0}) (Unit {0} × (MutBor A × Unit {0}))) (shape : List ℕ) (old new : List ℕ → Option A) (f : F) where
  pub changes_settled : ((i : List ℕ) → in_box shape i ≡ false → new i ≡ old i) → ((i : List ℕ) → in_box shape i ≡ false → old i ≡ None) → ChangesAll g shape old new f → (h : A → A) → ChangesBy g h f → (i : List ℕ) → new i ≡ option_map h (old i)
  changes_settled left nothing all h by i = by_bool (in_box shape i)
      (λ e. done_at_each shape (λ p j q. ChangesElement g (old j) (new j) p q) f (λ j. new j ≡ option_map h (old j)) does all.1.0 all.1.1 all.0 all.1.2 i e)
      (λ e. left i e ∙ (nothing i e ∙ ap (option_map h) (sym (nothing i e))))
    where
      does : (j : List ℕ) (q : F) → in_box shape j ≡ true → ChangesElement g (old j) (new j) f q → (q ≡ f) × (new j ≡ option_map h (old j))
      does j q inbox call = let gives = by call.0 call.1 q call.4 in (gives.0, call.3 ∙ (ap Some gives.1 ∙ ap (option_map h) (sym call.2)))
