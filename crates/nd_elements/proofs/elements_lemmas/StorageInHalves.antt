-- What a storage shows under two layouts cut in halves: what is done in one half, and then in the other, is done in both.
use Rattle.nd_elements.proofs.NamesFromOtherCrates.{◌≡◌, ℕ, true, false, List, ◌⊎◌, inl, inr, length, ℤ, pos, negsuc, refl, ap, sym, ◌∙◌, subst, ⊎_elim, arith, Option, Some, None, is_some, if◌then◌else◌, sum, in_box, place_of, AreHalved, Placement, IsStepOf, KeepsApart, step_some}
use Rattle.nd_elements.specs.StorageByLayout.{shown_at, place_named, HoldsEach, StaysOutside}
use Rattle.nd_elements.specs.LackOfMemory.{MayLackForClone}
use Rattle.nd_elements.specs.EqualClones.{ClonesOfAllAreEqual}
use Rattle.nd_elements.specs.StoragePlaces.{stored_at, names_place, place_number}
use Rattle.nd_elements.specs.elements.PairsWithOneWritten.{IsOldOrOf}
use Rattle.nd_elements.proofs.elements_lemmas.ComparedElements.{is_inside}
use Rattle.nd_elements.proofs.WriteAtOneIndex.{one_index}
use Rattle.nd_elements.proofs.elements_lemmas.ElementsHandedToBeWritten.{stored_same}
use Rattle.nd_elements.proofs.BoolAndResultCases.{by_value}

pub number_is : (z : ℤ) (p : ℕ) → place_number z ≡ Some p → z ≡ pos p
number_is (pos q) p e = cc
number_is (negsuc q) p e = cc

-- a place that an index names
named_there : (p : Placement) (i : List ℕ) (q : ℕ) → in_box p.lengths i ≡ true → place_of p.offset p.strides i ≡ pos q → place_named p i ≡ Some q
named_there p i q h e = rw h (ap place_number e)

there_named : (p : Placement) (i : List ℕ) (q : ℕ) → place_named p i ≡ Some q → (in_box p.lengths i ≡ true) × (place_of p.offset p.strides i ≡ pos q)
there_named p i q =
    by_value (λ b. (if b then place_number (place_of p.offset p.strides i) else None) ≡ Some q → (in_box p.lengths i ≡ true) × (place_of p.offset p.strides i ≡ pos q)) (in_box p.lengths i)
    (λ h e. (h, number_is (place_of p.offset p.strides i) q e)) (λ h e. absurd cc)

pub step_apart : (old new : Placement) (source : List ℕ → List ℕ) → IsStepOf old new source → KeepsApart old → KeepsApart new
step_apart old new source step apart some = step.separated (apart (step_some step some))

-- a step: what a new index shows, and what stays with the old
module _ {A : Type 0} (old new : Placement) (source : List ℕ → List ℕ) (step : IsStepOf old new source) where
  pub step_shown : (stored : ℕ → Option A) (j : List ℕ) → in_box new.lengths j ≡ true → shown_at stored new j ≡ shown_at stored old (source j)
  step_shown stored j h = rw (h, step.within j h) (ap (stored_at stored) (step.same j h))

  -- what is shown at a new index is shown at the old one that it names
  pub shown_before : (stored : ℕ → Option A) (i : List ℕ) (x : A) → shown_at stored new i ≡ Some x → shown_at stored old (source i) ≡ Some x
  shown_before stored i x is = sym (step_shown stored i (is_inside new.lengths i (stored_at stored (place_of new.offset new.strides i)) x is)) ∙ is

  pub step_holds : (stored : ℕ → Option A) → HoldsEach stored old → HoldsEach stored new
  step_holds stored holds j h = ap (names_place stored) (step.same j h) ∙ holds (source j) (step.within j h)

  pub step_clones : (stored : ℕ → Option A) (is_clone : A → A → Type 0) → ClonesOfAllAreEqual is_clone (shown_at stored old) → ClonesOfAllAreEqual is_clone (shown_at stored new)
  step_clones stored is_clone clones j x is = clones (source j) x (shown_before stored j x is)

  pub step_refused : (stored : ℕ → Option A) (is_infallible : A → Type 0) → MayLackForClone is_infallible (shown_at stored new) → MayLackForClone is_infallible (shown_at stored old)
  step_refused stored is_infallible refused = (source refused.0, refused.1, shown_before stored refused.0 refused.1 refused.2, refused.3)

-- the same of the second layouts
pub halved_other : {one two lower lower_two upper upper_two : Placement} → two.lengths ≡ one.lengths → AreHalved one two lower lower_two upper upper_two → AreHalved two one lower_two lower upper_two upper
halved_other {one} {two} {lower} {lower_two} {upper} {upper_two} alike halved =
    let inside = λ (ms ns : List ℕ) (same : ms ≡ ns) (i : List ℕ) (h : in_box ns i ≡ true). (let e = ap (λ ls. in_box ls i) same in e ∙ h) in record {
      source = halved.source;
      low_first = halved.low_second;
      low_second = halved.low_first;
      high_first = halved.high_second;
      high_second = halved.high_first;
      low_alike = sym halved.low_alike;
      high_alike = sym halved.high_alike;
      found = λ i h. ⊎_elim
          (λ (there : in_box lower.lengths i ≡ true). inl (inside lower_two.lengths lower.lengths halved.low_alike i there))
          (λ (there : (j : List ℕ) × (in_box upper.lengths j ≡ true) × (halved.source j ≡ i)). inr (there.0, inside upper_two.lengths upper.lengths halved.high_alike there.0 there.1, there.2))
          (halved.found i (inside one.lengths two.lengths (sym alike) i h));
      apart = λ i j h g. halved.apart i j (inside lower.lengths lower_two.lengths (sym halved.low_alike) i h) (inside upper.lengths upper_two.lengths (sym halved.high_alike) j g);
      once = λ j k h g. halved.once j k (inside upper.lengths upper_two.lengths (sym halved.high_alike) j h) (inside upper.lengths upper_two.lengths (sym halved.high_alike) k g);
      low_smaller = let less = halved.low_smaller in let e = ap sum halved.low_alike in let f = ap sum alike in omega (arith, less, e, f);
      high_smaller = let less = halved.high_smaller in let e = ap sum halved.high_alike in let f = ap sum alike in omega (arith, less, e, f);
    }

module _ {one two lower lower_two upper upper_two : Placement} (halved : AreHalved one two lower lower_two upper upper_two) where
  -- each half has what the whole has
  pub low_apart : KeepsApart one → KeepsApart lower
  low_apart = step_apart one lower (λ i. i) halved.low_first

  pub high_apart : KeepsApart one → KeepsApart upper
  high_apart = step_apart one upper halved.source halved.high_first

  module _ {A : Type 0} (stored : ℕ → Option A) where
    pub low_holds : HoldsEach stored one → HoldsEach stored lower
    low_holds = step_holds one lower (λ i. i) halved.low_first stored

    pub high_first_holds : HoldsEach stored one → HoldsEach stored upper
    high_first_holds = step_holds one upper halved.source halved.high_first stored

    pub low_others_hold : HoldsEach stored two → HoldsEach stored lower_two
    low_others_hold = step_holds two lower_two (λ i. i) halved.low_second stored

    pub high_others_hold : HoldsEach stored two → HoldsEach stored upper_two
    high_others_hold = step_holds two upper_two halved.source halved.high_second stored

    pub low_aside : (i : List ℕ) → in_box lower.lengths i ≡ true → shown_at stored lower_two i ≡ shown_at stored two i
    low_aside i h = step_shown two lower_two (λ j. j) halved.low_second stored i (ap (λ ns. in_box ns i) halved.low_alike ∙ h)

    pub high_aside : (j : List ℕ) → in_box upper.lengths j ≡ true → shown_at stored upper_two j ≡ shown_at stored two (halved.source j)
    high_aside j h = step_shown two upper_two halved.source halved.high_second stored j (ap (λ ns. in_box ns j) halved.high_alike ∙ h)

    pub low_there : (i : List ℕ) → in_box lower.lengths i ≡ true → shown_at stored lower i ≡ shown_at stored one i
    low_there = step_shown one lower (λ i. i) halved.low_first stored

    pub high_there : (j : List ℕ) → in_box upper.lengths j ≡ true → shown_at stored upper j ≡ shown_at stored one (halved.source j)
    high_there = step_shown one upper halved.source halved.high_first stored

    module _ (is : A → A → Type 0) where
      pub low_clones : ClonesOfAllAreEqual is (shown_at stored two) → ClonesOfAllAreEqual is (shown_at stored lower_two)
      low_clones = step_clones two lower_two (λ i. i) halved.low_second stored is

      pub high_clones : ClonesOfAllAreEqual is (shown_at stored two) → ClonesOfAllAreEqual is (shown_at stored upper_two)
      high_clones = step_clones two upper_two halved.source halved.high_second stored is

  -- each index is of one half
  pub each_half : (P : List ℕ → Type 0) → ((i : List ℕ) → in_box lower.lengths i ≡ true → P i) → ((j : List ℕ) → in_box upper.lengths j ≡ true → P (halved.source j)) → (i : List ℕ) → in_box one.lengths i ≡ true → P i
  each_half P low high i h =
      ⊎_elim
      (λ (there : in_box lower.lengths i ≡ true). low i there)
      (λ (there : (j : List ℕ) × (in_box upper.lengths j ≡ true) × (halved.source j ≡ i)). subst P there.2 (high there.0 there.1))
      (halved.found i h)

  module _ (as_many : length one.strides ≡ length one.lengths) (apart : KeepsApart one) where
    -- no place is in both
    halves_apart : (i j : List ℕ) → in_box lower.lengths i ≡ true → in_box upper.lengths j ≡ true → place_of lower.offset lower.strides i ≡ place_of upper.offset upper.strides j → ⊥
    halves_apart i j h g e =
        halved.apart i j h g (sym (one_index one.lengths one.strides one.offset i (halved.source j) as_many apart (halved.low_first.within i h) (halved.high_first.within j g) (sym (halved.low_first.same i h) ∙ (e ∙ halved.high_first.same j g))))

    module _ {A : Type 0} (old new : ℕ → Option A) where
      -- what is written in one half leaves the other
      pub low_stays : StaysOutside upper old new → (i : List ℕ) → in_box lower.lengths i ≡ true → stored_at new (place_of lower.offset lower.strides i) ≡ stored_at old (place_of lower.offset lower.strides i)
      low_stays stays i h = stored_same old new (place_of lower.offset lower.strides i) (λ q e. stays q (λ j named. let at = there_named upper j q named in halves_apart i j h at.0 (e ∙ sym at.1)))

      pub high_stays : StaysOutside lower old new → (j : List ℕ) → in_box upper.lengths j ≡ true → stored_at new (place_of upper.offset upper.strides j) ≡ stored_at old (place_of upper.offset upper.strides j)
      high_stays stays j h = stored_same old new (place_of upper.offset upper.strides j) (λ q e. stays q (λ i named. let at = there_named lower i q named in halves_apart i j at.0 h (at.1 ∙ sym e)))

      pub low_shown : StaysOutside upper old new → (i : List ℕ) → in_box lower.lengths i ≡ true → shown_at new one i ≡ shown_at old lower i
      low_shown stays i h = sym (low_there new i h) ∙ rw h (low_stays stays i h)

      pub high_shown : StaysOutside lower old new → (j : List ℕ) → in_box upper.lengths j ≡ true → shown_at new upper j ≡ shown_at old one (halved.source j)
      high_shown stays j h = rw h (high_stays stays j h) ∙ high_there old j h

      -- the same of every index
      pub high_same : StaysOutside lower old new → (j : List ℕ) → shown_at new upper j ≡ shown_at old upper j
      high_same stays j = by_value (λ _. shown_at new upper j ≡ shown_at old upper j) (in_box upper.lengths j) (λ h. rw h (high_stays stays j h)) (λ h. rw h refl)

      -- the upper half still has its elements
      pub high_holds : StaysOutside lower old new → HoldsEach old one → HoldsEach new upper
      high_holds stays holds j h = ap is_some (high_stays stays j h) ∙ high_first_holds old holds j h

  -- what neither half names stays
  pub both_stay : {A : Type 0} (old mid new : ℕ → Option A) → StaysOutside lower old mid → StaysOutside upper mid new → StaysOutside one old new
  both_stay old mid new first second q nowhere =
      second q (λ j named. let at = there_named upper j q named in nowhere (halved.source j) (named_there one (halved.source j) q (halved.high_first.within j at.0) (sym (halved.high_first.same j at.0) ∙ at.1)))
      ∙ first q (λ i named. let at = there_named lower i q named in nowhere i (named_there one i q (halved.low_first.within i at.0) (sym (halved.low_first.same i at.0) ∙ at.1)))

  pub low_alone_stays : {A : Type 0} (old mid : ℕ → Option A) → StaysOutside lower old mid → StaysOutside one old mid
  low_alone_stays old mid first = both_stay old mid mid first (λ q nowhere. refl)

  -- written in halves
  module _ (alike : two.lengths ≡ one.lengths) (as_many : length one.strides ≡ length one.lengths) (apart : KeepsApart one) {A : Type 0} (others : ℕ → Option A) (old mid new : ℕ → Option A) where
    pub both_assigned : StaysOutside upper mid new → ((i : List ℕ) → shown_at mid lower i ≡ shown_at others lower_two i) → ((j : List ℕ) → shown_at new upper j ≡ shown_at others upper_two j) → (i : List ℕ) → shown_at new one i ≡ shown_at others two i
    both_assigned second low high i =
        by_value (λ _. shown_at new one i ≡ shown_at others two i) (in_box one.lengths i)
        (each_half (λ i. shown_at new one i ≡ shown_at others two i)
        (λ i h. low_shown as_many apart mid new second i h ∙ (low i ∙ low_aside others i h))
        (λ j h. sym (high_there new j h) ∙ (high j ∙ high_aside others j h)) i)
        (λ out. let beyond : in_box two.lengths i ≡ false = ap (λ ns. in_box ns i) alike ∙ out in rw (out, beyond) refl)

    abbrev Either : (ℕ → Option A) → List ℕ → Type 0
    Either now i = (shown_at now one i ≡ shown_at old one i) ⊎ (shown_at now one i ≡ shown_at others two i)

    either_half : (now : ℕ → Option A) → ((i : List ℕ) → in_box lower.lengths i ≡ true → Either now i) → ((j : List ℕ) → in_box upper.lengths j ≡ true → Either now (halved.source j)) → (i : List ℕ) → Either now i
    either_half now low high i = by_value (λ _. Either now i) (in_box one.lengths i) (each_half (Either now) low high i) (λ out. inl (rw out refl))

    -- stopped in the lower half
    pub low_stopped : StaysOutside lower old mid → IsOldOrOf (shown_at old lower) (shown_at others lower_two) (shown_at mid lower) → IsOldOrOf (shown_at old one) (shown_at others two) (shown_at mid one)
    low_stopped first low =
        either_half mid
        (λ i h. ⊎_elim
        (λ (same : shown_at mid lower i ≡ shown_at old lower i). inl (sym (low_there mid i h) ∙ (same ∙ low_there old i h)))
        (λ (other : shown_at mid lower i ≡ shown_at others lower_two i). inr (sym (low_there mid i h) ∙ (other ∙ low_aside others i h)))
        (low i))
        (λ j h. inl (sym (high_there mid j h) ∙ high_shown as_many apart old mid first j h))

    -- stopped in the upper one
    pub high_stopped : StaysOutside lower old mid → StaysOutside upper mid new → ((i : List ℕ) → shown_at mid lower i ≡ shown_at others lower_two i) → IsOldOrOf (shown_at mid upper) (shown_at others upper_two) (shown_at new upper) → IsOldOrOf (shown_at old one) (shown_at others two) (shown_at new one)
    high_stopped first second low high =
        either_half new
        (λ i h. inr (low_shown as_many apart mid new second i h ∙ (low i ∙ low_aside others i h)))
        (λ j h. let there = high_there new j h in ⊎_elim
        (λ (same : shown_at new upper j ≡ shown_at mid upper j). inl (sym there ∙ (same ∙ high_shown as_many apart old mid first j h)))
        (λ (other : shown_at new upper j ≡ shown_at others upper_two j). inr (sym there ∙ (other ∙ high_aside others j h)))
        (high j))

    -- each index still has an element
    pub both_hold : StaysOutside upper mid new → HoldsEach mid lower → HoldsEach new upper → HoldsEach new one
    both_hold second low high =
        each_half (λ i. names_place new (place_of one.offset one.strides i) ≡ true)
        (λ i h. ap (names_place new) (sym (halved.low_first.same i h)) ∙ (ap is_some (low_stays as_many apart mid new second i h) ∙ low i h))
        (λ j h. ap (names_place new) (sym (halved.high_first.same j h)) ∙ high j h)

    pub low_still_holds : StaysOutside lower old mid → HoldsEach old one → HoldsEach mid lower → HoldsEach mid one
    low_still_holds first holds low =
        each_half (λ i. names_place mid (place_of one.offset one.strides i) ≡ true)
        (λ i h. ap (names_place mid) (sym (halved.low_first.same i h)) ∙ low i h)
        (λ j h. ap (names_place mid) (sym (halved.high_first.same j h)) ∙ high_holds as_many apart old mid first holds j h)
