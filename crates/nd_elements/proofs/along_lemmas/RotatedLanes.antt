-- Elements that move along lanes: one goes to the end, and those after it come one towards the front.
use Rattle.nd_elements.proofs.NamesFromOtherCrates.{◌≡◌, ℕ, ◌+◌, ◌<◌, ◌≤◌, true, ℤ, pos, refl, ap, sym, ◌∙◌, subst, arith, ⊎_elim, fun_ext, Option, is_some, nat_eq, nat_lt, cases_eq, lt-ltb, le-ltb, eq-eqb, ne_eqb}
use Rattle.nd_elements.specs.StoragePlaces.{stored_at, names_place, swapped_at}
use Rattle.nd_elements.specs.elements.ElementChanges.{AreDistinct}
use Rattle.nd_elements.specs.along.AxisLanes.{LanesDistinct}
use Rattle.nd_elements.specs.along.RemovedIndex.{rotated, IsMovedBy, AreMovedBy}
use Rattle.nd_elements.proofs.BoolAndResultCases.{by_order}
use Rattle.nd_elements.proofs.elements_lemmas.ElementsHandedToBeWritten.{stored_same}

-- ---- which coordinate comes where
rotated_low : (k n i : ℕ) → i < k → rotated k n i ≡ i
rotated_low k n i below = let yes : nat_lt i k ≡ true = lt-ltb i k below in rw yes refl

rotated_next : (k n i : ℕ) → k ≤ i → i + 1 < n → rotated k n i ≡ i + 1
rotated_next k n i from below = rw (le-ltb i k from, lt-ltb (i + 1) n below) refl

pub rotated_end : (k n i : ℕ) → k ≤ i → i + 1 ≡ n → rotated k n i ≡ k
rotated_end k n i from same = rw (le-ltb i k from, le-ltb (i + 1) n (omega (arith, same)), eq-eqb (i + 1) n same) refl

rotated_past : (k n i : ℕ) → k ≤ i → n < i + 1 → rotated k n i ≡ i
rotated_past k n i from past = rw (le-ltb i k from, le-ltb (i + 1) n (omega (arith, past)), ne_eqb (i + 1) n (λ e. omega (arith, past, e))) refl

pub rotated_below : (k n i : ℕ) → k < n → i < n → rotated k n i < n
rotated_below k n i on below =
    by_order i k
    (λ low. subst (λ j. j < n) (sym (rotated_low k n i low)) below)
    (λ high. by_order (i + 1) n
    (λ more. subst (λ j. j < n) (sym (rotated_next k n i high more)) more)
    (λ last. subst (λ j. j < n) (sym (rotated_end k n i high (omega (arith, last, below)))) on))

-- ---- one lane
module _ {A : Type 0} where
  module _ (place : ℕ → ℤ) (n k : ℕ) (old : ℕ → Option A) where
    -- two neighbours exchanged
    pub rotated_more : (m next p q : ℕ) → k ≤ m → m + 1 < n → next ≡ m + 1 → AreDistinct place n → pos p ≡ place m → pos q ≡ place (m + 1) → (now new : ℕ → Option A)
        → ((r : ℕ) → new r ≡ swapped_at now p q r) → IsMovedBy old now place n (rotated k (m + 1)) → IsMovedBy old new place n (rotated k (next + 1))
    rotated_more m next p q from within is_next apart at_p at_q now new put so_far = subst (λ j. IsMovedBy old new place n (rotated k (j + 1))) (sym is_next) (record { done = done; left = left })
      where
        two : p ≡ q → ⊥
        two same = let one = apart m (m + 1) (omega (arith, within)) within (sym at_p ∙ (ap pos same ∙ at_q)) in absurd (omega (arith, one))

        new_p : new p ≡ now q
        new_p =
            put p ∙ rw (ne_eqb p q two, eq-eqb p p refl) refl

        new_q : new q ≡ now p
        new_q = let same : nat_eq q q ≡ true = eq-eqb q q refl in put q ∙ rw same refl

        elsewhere : (r : ℕ) → (r ≡ p → ⊥) → (r ≡ q → ⊥) → new r ≡ now r
        elsewhere r not_p not_q =
            put r ∙ rw (ne_eqb r q not_q, ne_eqb r p not_p) refl

        done : (i : ℕ) → i < n → stored_at new (place i) ≡ stored_at old (place (rotated k (m + 1 + 1) i))
        done i below =
            ⊎_elim
            (λ (here : i ≡ m).
            let past : rotated k (m + 1) (m + 1) ≡ m + 1 = rotated_past k (m + 1) (m + 1) (omega (arith, from)) (omega arith) in
            let step : rotated k (m + 1 + 1) m ≡ m + 1 = rotated_next k (m + 1 + 1) m from (omega arith) in
            rw here (ap (stored_at new) (sym at_p) ∙ new_p ∙ ap (stored_at now) at_q ∙ so_far.done (m + 1) within ∙ ap (λ j. stored_at old (place j)) (past ∙ sym step)))
            (λ (not_here : i ≡ m → ⊥). ⊎_elim
            (λ (there : i ≡ m + 1).
            let last : rotated k (m + 1) m ≡ k = rotated_end k (m + 1) m from refl in
            let step : rotated k (m + 1 + 1) (m + 1) ≡ k = rotated_end k (m + 1 + 1) (m + 1) (omega (arith, from)) refl in
            rw there (ap (stored_at new) (sym at_q) ∙ new_q ∙ ap (stored_at now) at_p ∙ so_far.done m (omega (arith, within)) ∙ ap (λ j. stored_at old (place j)) (last ∙ sym step)))
            (λ (not_there : i ≡ m + 1 → ⊥).
            stored_same now new (place i)
            (λ r e. elsewhere r
            (λ same. not_here (apart i m below (omega (arith, within)) (e ∙ (ap pos same ∙ at_p))))
            (λ same. not_there (apart i (m + 1) below within (e ∙ (ap pos same ∙ at_q)))))
            ∙ so_far.done i below ∙ ap (λ j. stored_at old (place j)) (alike not_here not_there))
            (cases_eq i (m + 1)))
            (cases_eq i m)
          where
            alike : (i ≡ m → ⊥) → (i ≡ m + 1 → ⊥) → rotated k (m + 1) i ≡ rotated k (m + 1 + 1) i
            alike not_here not_there =
                by_order i k
                (λ low. rotated_low k (m + 1) i low ∙ sym (rotated_low k (m + 1 + 1) i low))
                (λ high. by_order i m
                (λ more. rotated_next k (m + 1) i high (omega (arith, more)) ∙ sym (rotated_next k (m + 1 + 1) i high (omega (arith, more))))
                (λ past. rotated_past k (m + 1) i high (omega (arith, past, not_here)) ∙ sym (rotated_past k (m + 1 + 1) i high (omega (arith, past, not_here, not_there)))))

        left : (r : ℕ) → ((i : ℕ) → i < n → place i ≡ pos r → ⊥) → new r ≡ old r
        left r nowhere =
            elsewhere r (λ same. nowhere m (omega (arith, within)) (sym at_p ∙ ap pos (sym same))) (λ same. nowhere (m + 1) within (sym at_q ∙ ap pos (sym same)))
            ∙ so_far.left r nowhere

    -- what moves is there
    pub rotated_there : (m p i : ℕ) → k < n → m < n → i < n → pos p ≡ place i → (now : ℕ → Option A) → ((j : ℕ) → j < n → names_place old (place j) ≡ true)
        → IsMovedBy old now place n (rotated k (m + 1)) → is_some (now p) ≡ true
    rotated_there m p i on within below at now holds so_far =
        ap (λ z. is_some (stored_at now z)) at ∙ ap is_some (so_far.done i below) ∙ holds (rotated k (m + 1) i) inside
      where
        inside : rotated k (m + 1) i < n
        inside =
            by_order i k
            (λ low. subst (λ j. j < n) (sym (rotated_low k (m + 1) i low)) below)
            (λ high. by_order i m
            (λ more. subst (λ j. j < n) (sym (rotated_next k (m + 1) i high (omega (arith, more)))) (omega (arith, more, within)))
            (λ past. ⊎_elim
            (λ (same : i ≡ m). subst (λ j. j < n) (sym (rotated_end k (m + 1) i high (ap (λ j. j + 1) same))) on)
            (λ (apart : i ≡ m → ⊥). subst (λ j. j < n) (sym (rotated_past k (m + 1) i high (omega (arith, past, apart)))) below)
            (cases_eq i m)))

  -- ---- lane after lane
  module _ (place : ℕ → ℕ → ℤ) (n : ℕ) (from : ℕ → ℕ) (old : ℕ → Option A) where
    -- the next lane holds what it held
    pub lane_still : (r lanes : ℕ) → r < lanes → LanesDistinct place lanes n → (now : ℕ → Option A) → AreMovedBy old now place r n from → (k : ℕ) → k < n → stored_at now (place r k) ≡ stored_at old (place r k)
    lane_still r lanes on apart now so_far k below =
        stored_same old now (place r k) (λ p e. so_far.left p (λ q j earlier under f.
        absurd (omega (arith, (apart q j r k (omega (arith, earlier, on)) on under below (f ∙ sym e)).0, earlier))))

    pub lanes_moved_more : (r lanes next : ℕ) → r < lanes → next ≡ r + 1 → ((k : ℕ) → k < n → from k < n) → LanesDistinct place lanes n → (now new : ℕ → Option A)
        → AreMovedBy old now place r n from → IsMovedBy now new (place r) n from → AreMovedBy old new place next n from
    lanes_moved_more r lanes next on is_next stays apart now new so_far lane = subst (λ q. AreMovedBy old new place q n from) (sym is_next) (record { done = done; left = left })
      where
        done : (q k : ℕ) → q < r + 1 → k < n → stored_at new (place q k) ≡ stored_at old (place q (from k))
        done q k within below =
            by_order q r
            (λ earlier.
            stored_same now new (place q k) (λ p e. lane.left p (λ j under f.
            let same = apart r j q k on (omega (arith, earlier, on)) under below (f ∙ sym e) in
            let one = same.0 in
            absurd (omega (arith, one, earlier))))
            ∙ so_far.done q k earlier below)
            (λ last.
            let same : q ≡ r = omega (arith, last, within) in
            rw same (lane.done k below ∙ lane_still r lanes on apart now so_far (from k) (stays k below)))

        left : (p : ℕ) → ((q k : ℕ) → q < r + 1 → k < n → place q k ≡ pos p → ⊥) → new p ≡ old p
        left p nowhere = lane.left p (λ k below. nowhere r k (omega arith) below) ∙ so_far.left p (λ q k earlier below. nowhere q k (omega (arith, earlier)) below)

    module _ (r lanes : ℕ) (on : r < lanes) (apart : LanesDistinct place lanes n) (lane : ℕ → ℤ) (count : ℕ) (long : count ≡ n) (goes : (k : ℕ) → lane k ≡ place r k) where
      -- the next lane, given by places of its own
      pub lane_apart : AreDistinct lane count
      lane_apart j k under below same =
          (apart r j r k on on (subst (λ m. j < m) long under) (subst (λ m. k < m) long below) (sym (goes j) ∙ (same ∙ goes k))).1

      pub lane_holds : (now : ℕ → Option A) → ((q k : ℕ) → q < lanes → k < n → names_place old (place q k) ≡ true) → AreMovedBy old now place r n from → (k : ℕ) → k < count → names_place now (lane k) ≡ true
      lane_holds now holds so_far k below =
          let inside : k < n = subst (λ m. k < m) long below in
          ap (names_place now) (goes k) ∙ ap is_some (lane_still r lanes on apart now so_far k inside) ∙ holds r k on inside

      pub lane_moved : (next : ℕ) → next ≡ r + 1 → (of : ℕ → ℕ → ℕ) → of n ≡ from → ((k : ℕ) → k < n → from k < n) → (now new : ℕ → Option A) → AreMovedBy old now place r n from → IsMovedBy now new lane count (of count) → AreMovedBy old new place next n from
      lane_moved next is_next of is_from stays now new so_far moved =
          lanes_moved_more r lanes next on is_next stays apart now new so_far
          (subst (λ h. IsMovedBy now new (place r) n h) is_from (subst (λ m. IsMovedBy now new (place r) m (of m)) long (subst (λ f. IsMovedBy now new f count (of count)) (fun_ext goes) moved)))
