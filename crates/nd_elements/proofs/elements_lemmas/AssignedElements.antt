-- Elements of one storage written over those of another, one place after another.
use Rattle.nd_elements.proofs.NamesFromOtherCrates.{◌≡◌, ℕ, ◌+◌, ◌-◌, ◌<◌, ◌≤◌, Bool, true, false, List, length, ℤ, pos, refl, ap, sym, subst, ◌∙◌, arith, inl, inr, ⊎_elim, Result, Ok, Err, OnOk, OnErr, ◌⊎◌, Option, is_some, nat_lt, nat_tests, on_ok_weaker, on_err_weaker, add-zero, in_box, size_of, row_rank, place_of, row_rank_below, index_at-row_rank, by_rank, Placement, KeepsApart, place_at_rank, rearranged_itself}
use Rattle.nd_elements.specs.StorageByLayout.{shown_at, HoldsEach, StaysOutside}
use Rattle.nd_elements.specs.CollectedElements.{stored_by_rank}
use Rattle.nd_elements.specs.StoragePlaces.{stored_at}
use Rattle.nd_elements.specs.elements.ElementChanges.{AreDistinct}
use Rattle.nd_elements.specs.elements.AssignedElements.{IsAssignedTo, IsPartlyAssigned, MovesAt, AssignsAt}
use Rattle.nd_elements.specs.elements.PairsWithOneWritten.{IsOldOrOf}
use Rattle.nd_elements.proofs.elements_lemmas.PairedElements.{ranks_apart, others_stay}
use Rattle.nd_elements.proofs.PlacesAsCallsGetThem.{second_given}
use Rattle.nd_elements.proofs.RewrittenElements.{stored_same, later_same}
use Rattle.nd_elements.proofs.BoolAndResultCases.{by_value}

module _ {A : Type 0} (given : ℕ → Option A) (place : ℕ → ℤ) where
  module _ (k n : ℕ) (apart : AreDistinct place n) (old now : ℕ → Option A) (so_far : IsAssignedTo given place k old now) where
    -- the later places hold what they held
    pub later_there : (j : ℕ) → k ≤ j → j < n → stored_at now (place j) ≡ stored_at old (place j)
    later_there = later_same place k n apart old now so_far.left

    pub assigned_partly : k ≤ n → IsPartlyAssigned given place n old now
    assigned_partly within = record {
      each = λ j below. by_value (λ _. (stored_at now (place j) ≡ stored_at old (place j)) ⊎ (stored_at now (place j) ≡ given j)) (nat_lt j k) (λ e. inr (so_far.done j (grind (arith, nat_tests, e)))) (λ e. inl (later_there j (grind (arith, nat_tests, e)) below));
      left = λ p nowhere. so_far.left p (λ j under. nowhere j (omega (arith, under, within)));
    }

    -- a lane more: its places are the next ones
    module _ (lane : ℕ → ℤ) (along : ℕ → Option A) (count : ℕ) (within : k + count ≤ n) (goes_on : (j : ℕ) → j < count → lane j ≡ place (k + j)) (given_goes_on : (j : ℕ) → j < count → along j ≡ given (k + j)) (new : ℕ → Option A) where
      left_then : ((p : ℕ) → ((j : ℕ) → j < count → lane j ≡ pos p → ⊥) → new p ≡ now p) → (p : ℕ) → (m : ℕ) → k + count ≤ m → ((j : ℕ) → j < m → place j ≡ pos p → ⊥) → new p ≡ old p
      left_then later p m upto nowhere = later p (λ j below e. nowhere (k + j) (omega (arith, below, upto)) (sym (goes_on j below) ∙ e)) ∙ so_far.left p (λ j below. nowhere j (omega (arith, below, upto)))

      apart_there : ((p : ℕ) → ((j : ℕ) → j < count → lane j ≡ pos p → ⊥) → new p ≡ now p) → (j : ℕ) → j < n → (j < k) ⊎ (k + count ≤ j) → stored_at new (place j) ≡ stored_at now (place j)
      apart_there later j below side = stored_same now new (place j) (λ p e. later p (λ i under f. let same = apart (k + i) j (omega (arith, under, within)) below (sym (goes_on i under) ∙ (f ∙ sym e)) in by_side side i under same))
        where
          by_side : (j < k) ⊎ (k + count ≤ j) → (i : ℕ) → i < count → k + i ≡ j → ⊥
          by_side side i under same = ⊎_elim (λ (less : j < k). absurd (omega (arith, less, same))) (λ (more : k + count ≤ j). absurd (omega (arith, more, same, under))) side

      -- a place of the lane, by its number
      in_lane : (j : ℕ) → k ≤ j → j < k + count → (i : ℕ) × (i < count) × (k + i ≡ j)
      in_lane j above below = (j - k, omega (arith, above, below), omega (arith, above))

      pub assigned_then : IsAssignedTo along lane count now new → IsAssignedTo given place (k + count) old new
      assigned_then later = record {
        done = λ j below.
            by_value (λ _. stored_at new (place j) ≡ given j) (nat_lt j k)
            (λ e. let less : j < k = grind (arith, nat_tests, e) in apart_there later.left j (omega (arith, below, within)) (inl less) ∙ so_far.done j less)
            (λ e. let there = in_lane j (grind (arith, nat_tests, e)) below in ap (λ m. stored_at new (place m)) (sym there.2) ∙ (ap (stored_at new) (sym (goes_on there.0 there.1)) ∙ (later.done there.0 there.1 ∙ (given_goes_on there.0 there.1 ∙ ap given there.2))));
        left = λ p. left_then later.left p (k + count) (omega arith);
      }

      pub partly_then : IsPartlyAssigned along lane count now new → IsPartlyAssigned given place n old new
      partly_then later = record { each = λ j below. by_test j below (nat_lt j k) (nat_lt j (k + count)) refl refl; left = λ p. left_then later.left p n within }
        where
          Either : ℕ → Type 0
          Either j = (stored_at new (place j) ≡ stored_at old (place j)) ⊎ (stored_at new (place j) ≡ given j)

          in_between : (i : ℕ) → (i < count) → (stored_at new (lane i) ≡ stored_at now (lane i)) ⊎ (stored_at new (lane i) ≡ along i) → Either (k + i)
          in_between i under (inl same) = inl (ap (stored_at new) (sym (goes_on i under)) ∙ (same ∙ (ap (stored_at now) (goes_on i under) ∙ later_there (k + i) (omega arith) (omega (arith, under, within)))))
          in_between i under (inr other) = inr (ap (stored_at new) (sym (goes_on i under)) ∙ (other ∙ given_goes_on i under))

          by_test : (j : ℕ) → j < n → (t u : Bool) → nat_lt j k ≡ t → nat_lt j (k + count) ≡ u → Either j
          by_test j below true u e f = let less : j < k = grind (arith, nat_tests, e) in inr (apart_there later.left j below (inl less) ∙ so_far.done j less)
          by_test j below false true e f =
              let there = in_lane j (grind (arith, nat_tests, e)) (grind (arith, nat_tests, f)) in
              subst Either there.2 (in_between there.0 there.1 (later.each there.0 there.1))
          by_test j below false false e f =
              let more : k + count ≤ j = grind (arith, nat_tests, f) in
              inl (apart_there later.left j below (inr more) ∙ later_there j (omega (arith, more)) below)

  -- one place more, where what stands there is what was given
  pub moved_more : (k n p : ℕ) → k < n → AreDistinct place n → pos p ≡ place k → (old now new : ℕ → Option A) → IsAssignedTo given place k old now → new p ≡ given k → ((q : ℕ) → (q ≡ p → ⊥) → new q ≡ now q) → IsAssignedTo given place (k + 1) old new
  moved_more k n p below apart at old now new so_far here left =
      assigned_then k n apart old now so_far (λ j. place (k + j)) (λ j. given (k + j)) 1 (omega (arith, below)) (λ j under. refl) (λ j under. refl) new
      (record { done = one; left = λ q nowhere. left q (λ same. nowhere 0 (omega arith) (ap place (add-zero k) ∙ (sym at ∙ ap pos (sym same)))) })
    where
      one : (j : ℕ) → j < 1 → stored_at new (place (k + j)) ≡ given (k + j)
      one j under =
          let last : k ≡ k + j = omega (arith, under) in
          ap (λ m. stored_at new (place m)) (sym last) ∙ (ap (stored_at new) (sym at) ∙ (here ∙ ap given last))

-- a lane more is exchanged: to the elements of one storage, those that the other had at first
pub lane_exchanged : {A : Type 0} (k count n : ℕ) → k + count ≤ n → (place their_place lane other_place : ℕ → ℤ) → ((j : ℕ) → j < count → lane j ≡ place (k + j)) → ((j : ℕ) → j < count → other_place j ≡ their_place (k + j)) → AreDistinct place n → AreDistinct their_place n → (old others now others_now : ℕ → Option A)
    → IsAssignedTo (λ j. stored_at others (their_place j)) place k old now → IsAssignedTo (λ j. stored_at old (place j)) their_place k others others_now → (new : ℕ → Option A) → IsAssignedTo (λ j. stored_at others_now (other_place j)) lane count now new → IsAssignedTo (λ j. stored_at others (their_place j)) place (k + count) old new
lane_exchanged k count n within place their_place lane other_place goes_on other_goes_on apart others_apart old others now others_now so_far theirs new later =
    assigned_then (λ j. stored_at others (their_place j)) place k n apart old now so_far lane (λ j. stored_at others_now (other_place j)) count within goes_on
    (λ j below. ap (stored_at others_now) (other_goes_on j below) ∙ later_there (λ j. stored_at old (place j)) their_place k n others_apart others others_now theirs (k + j) (omega arith) (omega (arith, below, within)))
    new later

-- the same by indexes, of a placement, and of a second one of its lengths
module _ {A : Type 0} (others : ℕ → Option A) (one two : Placement) (alike : two.lengths ≡ one.lengths) (old new : ℕ → Option A) where
  abbrev given_there : ℕ → Option A
  given_there = stored_by_rank others two.offset two.lengths two.strides

  abbrev place_there : ℕ → ℤ
  place_there = place_at_rank one.offset one.lengths one.strides

  -- what is shown at an index in the box stands at its rank's place
  shown_there : (stored : ℕ → Option A) (i : List ℕ) → in_box one.lengths i ≡ true → shown_at stored one i ≡ stored_at stored (place_there (row_rank one.lengths i))
  shown_there stored i h = rw h (ap (λ j. stored_at stored (place_of one.offset one.strides j)) (sym (index_at-row_rank one.lengths i h)))

  pub assigned_shown : IsAssignedTo given_there place_there (size_of one.lengths) old new → (i : List ℕ) → shown_at new one i ≡ shown_at others two i
  assigned_shown assigned i =
      by_value (λ _. shown_at new one i ≡ shown_at others two i) (in_box one.lengths i)
      (λ h. shown_there new i h ∙ (assigned.done (row_rank one.lengths i) (row_rank_below one.lengths i h) ∙ second_given others one two alike i h))
      (λ out. let beyond : in_box two.lengths i ≡ false = ap (λ ns. in_box ns i) alike ∙ out in rw (out, beyond) refl)

  module _ (partly : IsPartlyAssigned given_there place_there (size_of one.lengths) old new) where
    either_there : (i : List ℕ) → in_box one.lengths i ≡ true → (shown_at new one i ≡ shown_at old one i) ⊎ (shown_at new one i ≡ shown_at others two i)
    either_there i h =
        ⊎_elim
        (λ (same : stored_at new (place_there (row_rank one.lengths i)) ≡ stored_at old (place_there (row_rank one.lengths i))). inl (shown_there new i h ∙ (same ∙ sym (shown_there old i h))))
        (λ (other : stored_at new (place_there (row_rank one.lengths i)) ≡ given_there (row_rank one.lengths i)). inr (shown_there new i h ∙ (other ∙ second_given others one two alike i h)))
        (partly.each (row_rank one.lengths i) (row_rank_below one.lengths i h))

    pub partly_shown : IsOldOrOf (shown_at old one) (shown_at others two) (shown_at new one)
    partly_shown i = by_value (λ _. (shown_at new one i ≡ shown_at old one i) ⊎ (shown_at new one i ≡ shown_at others two i)) (in_box one.lengths i) (either_there i) (λ out. inl (rw out refl))

    -- each index still has an element, and nothing else changed
    pub partly_still : HoldsEach old one → HoldsEach others two → HoldsEach new one × StaysOutside one old new
    partly_still holds others_hold = (
      (λ i h.
          let there : in_box two.lengths i ≡ true = ap (λ ns. in_box ns i) alike ∙ h in
          let now : shown_at new one i ≡ stored_at new (place_of one.offset one.strides i) = rw h refl in
          let before : shown_at old one i ≡ stored_at old (place_of one.offset one.strides i) = rw h refl in
          let other_place : shown_at others two i ≡ stored_at others (place_of two.offset two.strides i) = rw there refl in
          ap is_some (sym now)
          ∙ ⊎_elim
          (λ (same : shown_at new one i ≡ shown_at old one i). ap is_some (same ∙ before) ∙ holds i h)
          (λ (other : shown_at new one i ≡ shown_at others two i). ap is_some (other ∙ other_place) ∙ others_hold i there)
          (either_there i h)),
      others_stay one.offset one.lengths one.strides one.offset one.lengths one.strides (rearranged_itself one.offset one.lengths one.strides) old new partly.left,
    )

  pub assigned_still : length one.strides ≡ length one.lengths → KeepsApart one → HoldsEach old one → HoldsEach others two → IsAssignedTo given_there place_there (size_of one.lengths) old new → HoldsEach new one × StaysOutside one old new
  assigned_still many apart holds others_hold assigned =
      partly_still (assigned_partly given_there place_there (size_of one.lengths) (size_of one.lengths) (ranks_apart one.offset one.lengths one.strides many apart) old new assigned (omega arith)) holds others_hold

-- the same of the places that a call was handed
module _ {S Z A : Type 0} (stored : S → ℕ → Option A) (others_stored : Z → ℕ → Option A) (others : Z) (old new : S) {to one from two : Placement} (is_one : to ≡ one) (is_two : from ≡ two) where
  pub moved_between : MovesAt stored others_stored (by_rank to) (by_rank from) others old new → MovesAt stored others_stored (by_rank one) (by_rank two) others old new
  moved_between moved =
      subst (λ p. MovesAt stored others_stored (by_rank p) (by_rank two) others old new) is_one
      (subst (λ p. MovesAt stored others_stored (by_rank to) (by_rank p) others old new) is_two moved)

  module _ (alike : two.lengths ≡ one.lengths) {E : Type 0} (result : Result (Unit {0}) E) (outcome : AssignsAt stored others_stored (by_rank to) (by_rank from) others old new result) where
    by_layout : AssignsAt stored others_stored (by_rank one) (by_rank two) others old new result
    by_layout =
        subst (λ p. AssignsAt stored others_stored (by_rank p) (by_rank two) others old new result) is_one
        (subst (λ p. AssignsAt stored others_stored (by_rank to) (by_rank p) others old new result) is_two outcome)

    pub assigned_between : OnOk result ((i : List ℕ) → shown_at (stored new) one i ≡ shown_at (others_stored others) two i)
    assigned_between = on_ok_weaker result (assigned_shown (others_stored others) one two alike (stored old) (stored new)) by_layout.0

    pub stopped_between : OnErr result (IsOldOrOf (shown_at (stored old) one) (shown_at (others_stored others) two) (shown_at (stored new) one))
    stopped_between = on_err_weaker result (partly_shown (others_stored others) one two alike (stored old) (stored new)) by_layout.1

    pub still_between : length one.strides ≡ length one.lengths → KeepsApart one → HoldsEach (stored old) one → HoldsEach (others_stored others) two → HoldsEach (stored new) one × StaysOutside one (stored old) (stored new)
    still_between many apart holds others_hold = by_case result by_layout
      where
        by_case : (r : Result (Unit {0}) E) → AssignsAt stored others_stored (by_rank one) (by_rank two) others old new r → HoldsEach (stored new) one × StaysOutside one (stored old) (stored new)
        by_case (Ok u) all = assigned_still (others_stored others) one two alike (stored old) (stored new) many apart holds others_hold all.0
        by_case (Err e) some = partly_still (others_stored others) one two alike (stored old) (stored new) some.1 holds others_hold

-- the same with a map with the same elements
pub old_or_same : {A : Type 0} (old other other' new : List ℕ → Option A) → ((i : List ℕ) → other i ≡ other' i) → IsOldOrOf old other new → IsOldOrOf old other' new
old_or_same old other other' new same either i = ⊎_elim (λ (kept : new i ≡ old i). inl kept) (λ (is : new i ≡ other i). inr (is ∙ same i)) (either i)
