-- Elements of two storages handed out in pairs, one place after another.
use Rattle.nd_elements.proofs.NamesFromOtherCrates.{◌≡◌, ℕ, ◌+◌, ◌<◌, ◌≤◌, true, false, List, length, ℤ, pos, ap, sym, subst, ◌∙◌, arith, Option, None, Some, is_some, Bor, MutBor, Mut, in_box, size_of, place_of, index_at, row_rank, IsSeparated, in_box-index_at, row_rank-index_at, IsViewStep, place_at_rank, IsRearranged}
use Rattle.nd_elements.specs.ShapeAndElements.{inside}
use Rattle.nd_elements.specs.StoragePlaces.{stored_at, names_place, place_number, HoldsAll}
use Rattle.nd_elements.specs.WritesByIndex.{OthersStay}
use Rattle.nd_elements.specs.CallsInFreeOrder.{VisitedInSomeOrder}
use Rattle.nd_elements.specs.elements.ElementChanges.{AreDistinct}
use Rattle.nd_elements.specs.elements.PairsWithOneWritten.{option_both, ChangesWith, ChangesWithSomehow, TakesBoth, IsZippedTo, TakesPairs, ZipsBy, ZipsAll, ZippableInAnyOrder}
use Rattle.nd_elements.proofs.BoolAndResultCases.{by_bool}
use Rattle.nd_elements.proofs.WriteAtOneIndex.{one_index}
use Rattle.nd_elements.proofs.CallsInFreeOrder.{listed, listed_part, listed_all, done_at_each}
use Rattle.nd_elements.proofs.elements_lemmas.FoldCallsByIndex.{rearranged_numbers}
use Rattle.nd_elements.proofs.NumberedCalls.{ran_at, ran_weaker, ran_listed}
use Rattle.nd_elements.proofs.RewrittenElements.{rewritten_then, rewrites_next, next_there, still_rewritten}

module _ {F A B : Type 0} (g : Mut F (MutBor A × (Bor B × Unit {0})) (Unit {0} × (MutBor A × Unit {0}))) (others : ℕ → Option B) where
  -- whatever they left
  pub zip_somehow : (other : Option B) (old new : Option A) (p q : F) → ChangesWith g other old new p q → ChangesWithSomehow g other old p q
  zip_somehow other old new p q call = (call.0, call.1, call.2, call.3, call.5, call.6)

  abbrev zips : (ℕ → ℤ) → ℕ → Option A → Option A → F → F → Type 0
  zips other_place k old new p q = ChangesWith g (stored_at others (other_place k)) old new p q

  abbrev somehow : (ℕ → ℤ) → ℕ → Option A → F → F → Type 0
  somehow other_place k old p q = ChangesWithSomehow g (stored_at others (other_place k)) old p q

  -- places handed out after the first k, the next ones
  module _ (place lane other_place along : ℕ → ℤ) (k count n : ℕ) (within : k + count ≤ n) (apart : AreDistinct place n) (goes_on : (j : ℕ) → j < count → lane j ≡ place (k + j)) (other_goes_on : (j : ℕ) → j < count → along j ≡ other_place (k + j)) (old now new : ℕ → Option A) (first mid last : F) (so_far : IsZippedTo g place others other_place k old now first mid) where
    pub zipped_then : IsZippedTo g lane others along count now new mid last → IsZippedTo g place others other_place (k + count) old new first last
    zipped_then = rewritten_then (zips other_place) place lane k count n within apart goes_on old now new first mid last so_far (zips along)
        (λ j o w p q below step. subst (λ z. ChangesWith g (stored_at others z) o w p q) (other_goes_on j below) step)

    -- the next calls may be made
    pub zips_next : TakesPairs g old place others other_place first n → TakesPairs g now lane others along mid count
    zips_next takes j state below run x b is is_other =
        takes (k + j) state (omega (arith, below, within))
        (rewrites_next (zips other_place) place lane k count n within apart goes_on old now new first mid last so_far (somehow other_place) (somehow along)
        (λ j o w p q. zip_somehow (stored_at others (other_place j)) o w p q)
        (λ j o p q below step. subst (λ z. ChangesWithSomehow g (stored_at others z) o p q) (other_goes_on j below) step) j state below run) x b
        (sym (still_rewritten (zips other_place) place lane k count n within apart goes_on old now new first mid last so_far j below) ∙ is)
        (ap (stored_at others) (sym (other_goes_on j below)) ∙ is_other)

  -- the call for the place after those so far may be made
  pub next_zipped : (place other_place : ℕ → ℤ) (n k p : ℕ) (b : B) → k < n → AreDistinct place n → pos p ≡ place k → Some b ≡ stored_at others (other_place k) → (old now : ℕ → Option A) (first mid : F) → IsZippedTo g place others other_place k old now first mid → TakesPairs g old place others other_place first n → TakesBoth g (Some b) (now p) mid
  next_zipped place other_place n k p b below apart at is_other old now first mid so_far takes x y is other =
      takes k mid below
      (ran_weaker (λ p i q. zips other_place i (stored_at old (place i)) (stored_at now (place i)) p q) (λ p i q. somehow other_place i (stored_at old (place i)) p q) first mid k (λ p i q under step. zip_somehow (stored_at others (other_place i)) (stored_at old (place i)) (stored_at now (place i)) p q step) so_far.calls) x y
      (sym (next_there (zips other_place) place n k below apart old now first mid so_far) ∙ (ap (stored_at now) (sym at) ∙ is))
      (sym is_other ∙ other)

-- the same by indexes: to one index of the first array belong the places of both at its rank
module _ {F A B : Type 0} (g : Mut F (MutBor A × (Bor B × Unit {0})) (Unit {0} × (MutBor A × Unit {0}))) (others : ℕ → Option B) (offset : ℕ) (ns : List ℕ) (ss : List ℤ) (to : ℕ) (ms : List ℕ) (ts : List ℤ) (by : IsRearranged offset ns ss to ms ts) (other_place : ℕ → ℤ) (other_at : List ℕ → Option B) (is_other_place : (rank : ℕ) → rank < size_of ms → stored_at others (other_place rank) ≡ other_at (by.index_of rank)) where
  abbrev at : (ℕ → Option A) → List ℕ → Option A
  at stored i = inside ns i (stored_at stored (place_of offset ss i))

  there : (stored : ℕ → Option A) (rank : ℕ) → rank < size_of ms → stored_at stored (place_at_rank to ms ts rank) ≡ at stored (by.index_of rank)
  there stored rank below = rw (by.within rank below) (ap (stored_at stored) (by.same rank below))

  -- each index still has an element
  pub zipped_holds : (old new : ℕ → Option A) (f last : F) → IsZippedTo g (place_at_rank to ms ts) others other_place (size_of ms) old new f last → HoldsAll new offset ns ss
  zipped_holds old new f last changed i inbox =
      let call = ran_at (λ p k q. ChangesWith g (stored_at others (other_place k)) (stored_at old (place_at_rank to ms ts k)) (stored_at new (place_at_rank to ms ts k)) p q) f last (size_of ms) (by.rank_of i) (by.below i inbox) changed.calls in
      let here : place_at_rank to ms ts (by.rank_of i) ≡ place_of offset ss i = by.same (by.rank_of i) (by.below i inbox) ∙ ap (place_of offset ss) (by.back i inbox) in
      ap (names_place new) (sym here) ∙ ap is_some call.2.4

  pub places_zippable : (stored : ℕ → Option A) (f : F) → ZippableInAnyOrder g ns (at stored) other_at f → TakesPairs g stored (place_at_rank to ms ts) others other_place f (size_of ms)
  places_zippable stored f askable k now below run x b is is_other =
      askable (listed by.index_of k) now (by.index_of k) (by.within k below) (listed_part (rearranged_numbers offset ns ss to ms ts by) k below)
      (ran_listed (λ p i q. ChangesWithSomehow g (other_at i) (at stored i) p q) by.index_of f now k
      (ran_weaker (λ p j q. ChangesWithSomehow g (stored_at others (other_place j)) (stored_at stored (place_at_rank to ms ts j)) p q) (λ p j q. ChangesWithSomehow g (other_at (by.index_of j)) (at stored (by.index_of j)) p q) f now k
      (λ p j q under call. subst (λ o. ChangesWithSomehow g o (at stored (by.index_of j)) p q) (is_other_place j (omega (arith, under, below))) (subst (λ o. ChangesWithSomehow g (stored_at others (other_place j)) o p q) (there stored j (omega (arith, under, below))) call)) run)) x b
      (sym (there stored k below) ∙ is) (sym (is_other_place k below) ∙ is_other)

  pub zips_all : (old new : ℕ → Option A) (f last : F) → IsZippedTo g (place_at_rank to ms ts) others other_place (size_of ms) old new f last → VisitedInSomeOrder ns (λ p i q. ChangesWith g (other_at i) (at old i) (at new i) p q) f last
  zips_all old new f last changed = (
    listed by.index_of (size_of ms),
    listed_all (rearranged_numbers offset ns ss to ms ts by),
    ran_listed (λ p i q. ChangesWith g (other_at i) (at old i) (at new i) p q) by.index_of f last (size_of ms)
        (ran_weaker (λ p k q. ChangesWith g (stored_at others (other_place k)) (stored_at old (place_at_rank to ms ts k)) (stored_at new (place_at_rank to ms ts k)) p q) (λ p k q. ChangesWith g (other_at (by.index_of k)) (at old (by.index_of k)) (at new (by.index_of k)) p q) f last (size_of ms)
        (λ p k q below call. subst (λ o. ChangesWith g o (at old (by.index_of k)) (at new (by.index_of k)) p q) (is_other_place k below) (subst (λ o. ChangesWith g (stored_at others (other_place k)) (at old (by.index_of k)) o p q) (there new k below) (subst (λ o. ChangesWith g (stored_at others (other_place k)) o (stored_at new (place_at_rank to ms ts k)) p q) (there old k below) call))) changed.calls),
  )

-- where the closure leaves what h gives and stays as it is, h's values stand everywhere
module _ {F A B : Type 0} (g : Mut F (MutBor A × (Bor B × Unit {0})) (Unit {0} × (MutBor A × Unit {0}))) (shape : List ℕ) (old new : List ℕ → Option A) (others : List ℕ → Option B) (f : F) where
  pub zips_settled : ((i : List ℕ) → in_box shape i ≡ false → new i ≡ None) → ((i : List ℕ) → in_box shape i ≡ false → old i ≡ None) → ZipsAll g shape old others new f → (h : A → B → A) → ZipsBy g h f → (i : List ℕ) → new i ≡ option_both h (old i) (others i)
  zips_settled nothing_new nothing all h by i = by_bool (in_box shape i)
      (λ e. done_at_each shape (λ p j q. ChangesWith g (others j) (old j) (new j) p q) f (λ j. new j ≡ option_both h (old j) (others j)) does all.1.0 all.1.1 all.0 all.1.2 i e)
      (λ e. nothing_new i e ∙ ap (λ o. option_both h o (others i)) (sym (nothing i e)))
    where
      does : (j : List ℕ) (q : F) → in_box shape j ≡ true → ChangesWith g (others j) (old j) (new j) f q → (q ≡ f) × (new j ≡ option_both h (old j) (others j))
      does j q inbox call =
          let gives = by call.0 call.2 call.1 q call.6 in
          (gives.0, call.4 ∙ (ap Some gives.1 ∙ sym (ap (option_both h (old j)) call.5 ∙ ap (λ o. option_both h o (Some call.2.now)) call.3)))

-- what a second layout names of a second storage, by the ranks of a shape
module _ {B : Type 0} (others : ℕ → Option B) (offset : ℕ) (ns : List ℕ) (ss : List ℤ) (from : ℕ) (ms : List ℕ) (ts : List ℤ) (source : List ℕ → List ℕ) (seen : IsViewStep offset ns ss from ms ts source) where
  -- a rank's place has the element at the index that the rank's index names
  pub element_by_rank : (rank : ℕ) → rank < size_of ms → stored_at others (place_at_rank from ms ts rank) ≡ inside ms (index_at ms rank) (inside ns (source (index_at ms rank)) (stored_at others (place_of offset ss (source (index_at ms rank)))))
  element_by_rank rank below =
      let within = in_box-index_at ms rank below in
      rw (within, seen.within (index_at ms rank) within) (ap (stored_at others) (seen.same (index_at ms rank) within))

-- what is written at the places of an array's indexes alone leaves all others
pub others_stay : {A : Type 0} (offset : ℕ) (ns : List ℕ) (ss : List ℤ) (to : ℕ) (ms : List ℕ) (ts : List ℤ) (by : IsRearranged offset ns ss to ms ts) (old new : ℕ → Option A) → ((p : ℕ) → ((k : ℕ) → k < size_of ms → place_at_rank to ms ts k ≡ pos p → ⊥) → new p ≡ old p)
    → OthersStay (λ i. inside ns i (place_number (place_of offset ss i))) old new
others_stay offset ns ss to ms ts by old new left p nowhere =
    left p (λ k below e. nowhere (by.index_of k) (rw (by.within k below) (ap place_number (sym (by.same k below) ∙ e))))

pub ranks_apart : (offset : ℕ) (ns : List ℕ) (ss : List ℤ) → length ss ≡ length ns → (0 < size_of ns → IsSeparated ns ss) → AreDistinct (place_at_rank offset ns ss) (size_of ns)
ranks_apart offset ns ss as_many apart j k under below same =
    sym (row_rank-index_at ns j under) ∙ (ap (row_rank ns) (one_index ns ss offset (index_at ns j) (index_at ns k) as_many apart (in_box-index_at ns j under) (in_box-index_at ns k below) same) ∙ row_rank-index_at ns k below)
