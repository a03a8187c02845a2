-- Lanes gone along together, one coordinate after the other.
use Rattle.nd_elements.proofs.NamesFromOtherCrates.{◌≡◌, ℕ, zero, suc, ◌+◌, ◌*◌, ◌/◌, ◌%◌, ◌<◌, ◌≤◌, true, false, ℤ, pos, refl, ap, sym, subst, ◌∙◌, arith, Option, is_some, nat_eq, if◌then◌else◌, Bor, MutBor, Mut, nat_tests}
use Rattle.nd_elements.specs.StoragePlaces.{stored_at, names_place}
use Rattle.nd_elements.specs.elements.ElementFolds.{RanTo}
use Rattle.nd_elements.specs.along.AxisLanes.{LanesDistinct}
use Rattle.nd_elements.specs.along.AccumulateAlongAxis.{ChangesAfter, ChangesRow, TakesRow, AccumulatesNumbered, AreAccumulated, TakesLanes}
use Rattle.nd_elements.proofs.elements_lemmas.ElementsHandedToBeWritten.{stored_same}
use Rattle.nd_elements.proofs.along_lemmas.LaneNumbers.{number_lane, lane_number, lane_number_below, by_columns}
use Rattle.nd_elements.proofs.NumberedCalls.{ran_at, ran_weaker, ran_then}

module _ {F A : Type 0} (g : Mut F (Bor A × (MutBor A × Unit {0})) (Unit {0} × (MutBor A × Unit {0}))) where
  -- so many coordinates done, of each of the lanes
  pub record RowsAccumulated (place : ℕ → ℕ → ℤ) (lanes done : ℕ) (old new : ℕ → Option A) (first last : F) : Type 0 where
    pub calls : AccumulatesNumbered g (λ m. m % lanes) (λ m. m / lanes) (λ r k. stored_at old (place r k)) (λ r k. stored_at new (place r k)) first (done * lanes) last
    pub left : (p : ℕ) → ((r k : ℕ) → r < lanes → k < done → place r (suc k) ≡ pos p → ⊥) → new p ≡ old p

  pub rows_none : (place : ℕ → ℕ → ℤ) (lanes : ℕ) (old : ℕ → Option A) (f : F) → RowsAccumulated place lanes 0 old old f f
  rows_none place lanes old f = record {
    calls = let none : 0 ≡ 0 * lanes = omega arith in subst (λ n. AccumulatesNumbered g (λ m. m % lanes) (λ m. m / lanes) (λ r k. stored_at old (place r k)) (λ r k. stored_at old (place r k)) f n f) none refl;
    left = λ p nowhere. refl;
  }

  pub rows_all : (place : ℕ → ℕ → ℤ) (lanes w : ℕ) (old new : ℕ → Option A) (first last : F) → RowsAccumulated place lanes w old new first last → AreAccumulated g place lanes w old new first last
  rows_all place lanes w old new first last done = record { all = w * lanes; lane = λ m. m % lanes; column = λ m. m / lanes; number = λ r k. k * lanes + r; pairs = by_columns lanes w; calls = done.calls; left = done.left }

  module _ (place : ℕ → ℕ → ℤ) (lanes w : ℕ) (apart : LanesDistinct place lanes (suc w)) (old now : ℕ → Option A) (first mid : F) (k : ℕ) (under : k < w) (so_far : RowsAccumulated place lanes k old now first mid) where
    abbrev step : (ℕ → ℕ → Option A) → F → ℕ → F → Type 0
    step left p m q = ChangesAfter g (left (m % lanes) (m / lanes)) (stored_at old (place (m % lanes) (suc (m / lanes)))) (left (m % lanes) (suc (m / lanes))) p q

    -- the coordinates after them hold what they held
    pub row_still : (r j : ℕ) → r < lanes → k < j → j < suc w → stored_at now (place r j) ≡ stored_at old (place r j)
    row_still r j on later below =
        stored_same old now (place r j) (λ p e. so_far.left p (λ q i on_q earlier f. let same = (apart q (suc i) r j on_q on (omega (arith, earlier, under)) below (f ∙ sym e)).1 in absurd (omega (arith, same, earlier, later))))

    -- so does the first, always
    pub start_still : (r : ℕ) → r < lanes → stored_at now (place r 0) ≡ stored_at old (place r 0)
    start_still r on =
        stored_same old now (place r 0) (λ p e. so_far.left p (λ q i on_q earlier f. let same = (apart q (suc i) r 0 on_q on (omega (arith, earlier, under)) (omega arith) (f ∙ sym e)).1 in absurd (omega (arith, same))))

    abbrev seen_now : ℕ → ℕ → Option A
    seen_now r j = stored_at now (place r j)

    -- one coordinate more
    pub rows_more : (new : ℕ → Option A) (last : F) → ChangesRow g (λ r. stored_at now (place r k)) (λ r. stored_at now (place r (suc k))) (λ r. stored_at new (place r (suc k))) mid lanes last
        → ((p : ℕ) → ((r : ℕ) → r < lanes → place r (suc k) ≡ pos p → ⊥) → new p ≡ now p) → RowsAccumulated place lanes (k + 1) old new first last
    rows_more new last row left = record { calls = calls; left = lefts }
      where
        seen_new : ℕ → ℕ → Option A
        seen_new r j = stored_at new (place r j)

        kept : (r j : ℕ) → r < lanes → j ≤ k → seen_new r j ≡ seen_now r j
        kept r j on low = stored_same now new (place r j) (λ p e. left p (λ q on_q f. let same = (apart q (suc k) r j on_q on (omega (arith, under)) (omega (arith, low, under)) (f ∙ sym e)).1 in absurd (omega (arith, same, low))))

        many : k * lanes + lanes ≡ (k + 1) * lanes
        many = omega arith

        calls : RanTo (step seen_new) first ((k + 1) * lanes) last
        calls =
            subst (λ n. RanTo (step seen_new) first n last) many
            (ran_then (step seen_new) (λ p r q. ChangesAfter g (seen_now r k) (seen_now r (suc k)) (seen_new r (suc k)) p q) first mid last (k * lanes) lanes
            (λ p r q on call.
            let numbers = lane_number lanes k r on in
            subst (λ m. ChangesAfter g (seen_new m ((k * lanes + r) / lanes)) (stored_at old (place m (suc ((k * lanes + r) / lanes)))) (seen_new m (suc ((k * lanes + r) / lanes))) p q) (sym numbers.1)
            (subst (λ m. ChangesAfter g (seen_new r m) (stored_at old (place r (suc m))) (seen_new r (suc m)) p q) (sym numbers.0)
            (subst (λ o. ChangesAfter g o (stored_at old (place r (suc k))) (seen_new r (suc k)) p q) (sym (kept r k on (omega arith)))
            (subst (λ o. ChangesAfter g (seen_now r k) o (seen_new r (suc k)) p q) (row_still r (suc k) on (omega arith) (omega (arith, under))) call))))
            (ran_weaker (step seen_now) (step seen_new) first mid (k * lanes)
            (λ p m q below call.
            let at = number_lane k lanes m below in
            subst (λ o. ChangesAfter g o (stored_at old (place (m % lanes) (suc (m / lanes)))) (seen_new (m % lanes) (suc (m / lanes))) p q) (sym (kept (m % lanes) (m / lanes) at.1 (omega (arith, at.0))))
            (subst (λ o. ChangesAfter g (seen_now (m % lanes) (m / lanes)) (stored_at old (place (m % lanes) (suc (m / lanes)))) o p q) (sym (kept (m % lanes) (suc (m / lanes)) at.1 (omega (arith, at.0)))) call)) so_far.calls)
            row)

        lefts : (p : ℕ) → ((r j : ℕ) → r < lanes → j < k + 1 → place r (suc j) ≡ pos p → ⊥) → new p ≡ old p
        lefts p nowhere = left p (λ r on. nowhere r k on (omega arith)) ∙ so_far.left p (λ r j on low. nowhere r j on (omega (arith, low)))

    -- the next row may be gone through
    pub row_takes : TakesLanes g place lanes w old first → TakesRow g (λ r. stored_at now (place r k)) (λ r. stored_at now (place r (suc k))) lanes mid
    row_takes takes after r state on run x y shows gives =
        let numbers = lane_number lanes k r on in
        takes (w * lanes) (λ m. m % lanes) (λ m. m / lanes) (λ q j. j * lanes + q) (by_columns lanes w) joined (k * lanes + r) state (lane_number_below w lanes k r under on) starts
        (ran_then (step joined) (λ p q' q. ChangesAfter g (seen_now q' k) (seen_now q' (suc k)) (after q') p q) first mid state (k * lanes) r
        (λ p j q before call.
        let on_j : j < lanes = omega (arith, before, on) in
        let at = lane_number lanes k j on_j in
        subst (λ m. ChangesAfter g (joined m ((k * lanes + j) / lanes)) (stored_at old (place m (suc ((k * lanes + j) / lanes)))) (joined m (suc ((k * lanes + j) / lanes))) p q) (sym at.1)
        (subst (λ m. ChangesAfter g (joined j m) (stored_at old (place j (suc m))) (joined j (suc m)) p q) (sym at.0)
        (subst (λ o. ChangesAfter g o (stored_at old (place j (suc k))) (joined j (suc k)) p q) (sym (there j k (omega arith)))
        (subst (λ o. ChangesAfter g (seen_now j k) (stored_at old (place j (suc k))) o p q) (sym (here j))
        (subst (λ o. ChangesAfter g (seen_now j k) o (after j) p q) (row_still j (suc k) on_j (omega arith) (omega (arith, under))) call)))))
        (ran_weaker (step seen_now) (step joined) first mid (k * lanes)
        (λ p m q low_m call.
        let low = (number_lane k lanes m low_m).0 in
        subst (λ o. ChangesAfter g o (stored_at old (place (m % lanes) (suc (m / lanes)))) (joined (m % lanes) (suc (m / lanes))) p q) (sym (there (m % lanes) (m / lanes) (omega (arith, low))))
        (subst (λ o. ChangesAfter g (seen_now (m % lanes) (m / lanes)) (stored_at old (place (m % lanes) (suc (m / lanes)))) o p q) (sym (there (m % lanes) (suc (m / lanes)) (omega (arith, low)))) call)) so_far.calls)
        run) x y
        ((λ i. joined (numbers.1 i) (numbers.0 i)) ∙ (there r k (omega arith) ∙ shows))
        ((λ i. stored_at old (place (numbers.1 i) (suc (numbers.0 i)))) ∙ (sym (row_still r (suc k) on (omega arith) (omega (arith, under))) ∙ gives))
      where
        -- what the calls may have left: in this row what they say, and before it what is there
        joined : ℕ → ℕ → Option A
        joined q j = if nat_eq j (suc k) then after q else seen_now q j

        here : (q : ℕ) → joined q (suc k) ≡ after q
        here q = let same : nat_eq (suc k) (suc k) ≡ true = grind (arith, nat_tests) in rw same refl

        there : (q j : ℕ) → j ≤ k → joined q j ≡ seen_now q j
        there q j low = let other : nat_eq j (suc k) ≡ false = grind (arith, nat_tests, low) in rw other refl

        starts : (q : ℕ) → q < lanes → joined q 0 ≡ stored_at old (place q 0)
        starts q on_q = there q 0 (omega arith) ∙ start_still q on_q

    -- the elements of the row that is shown are there
    pub row_there : ((r j : ℕ) → r < lanes → j < suc w → names_place old (place r j) ≡ true) → (r : ℕ) → r < lanes → names_place now (place r k) ≡ true
    row_there holds r on = by_coordinate k refl
      where
        by_coordinate : (j : ℕ) → k ≡ j → names_place now (place r k) ≡ true
        by_coordinate zero e = ap (λ j. names_place now (place r j)) e ∙ (ap is_some (start_still r on) ∙ holds r 0 on (omega arith))
        by_coordinate (suc j) e =
            let numbers = lane_number lanes j r on in
            let one : suc j * lanes ≡ j * lanes + lanes = omega arith in
            let many : k * lanes ≡ suc j * lanes = ap (λ m. m * lanes) e in
            let below : j * lanes + r < k * lanes = omega (arith, many, one, on) in
            ap (λ m. names_place now (place r m)) e ∙ (sym (λ i. names_place now (place (numbers.1 i) (suc (numbers.0 i)))) ∙ ap is_some (ran_at (step seen_now) first mid (k * lanes) (j * lanes + r) below so_far.calls).2.5)

    -- so are those of the next one
    pub next_there : ((r j : ℕ) → r < lanes → j < suc w → names_place old (place r j) ≡ true) → (r : ℕ) → r < lanes → names_place now (place r (suc k)) ≡ true
    next_there holds r on = ap is_some (row_still r (suc k) on (omega arith) (omega (arith, under))) ∙ holds r (suc k) on (omega (arith, under))

    -- a run of places lies in no row twice
    pub rows_apart : (r q : ℕ) → r < lanes → q < lanes → place r k ≡ place q (suc k) → ⊥
    rows_apart r q on on_q same = let one = (apart r k q (suc k) on on_q (omega (arith, under)) (omega (arith, under)) same).1 in absurd (omega (arith, one))

  -- the same lanes by other words for their places
  module _ (place other : ℕ → ℕ → ℤ) (lanes w : ℕ) (same : (r k : ℕ) → r < lanes → other r k ≡ place r k) (old : ℕ → Option A) (first : F) where
    pub lanes_taken_alike : TakesLanes g place lanes w old first → TakesLanes g other lanes w old first
    lanes_taken_alike takes total lane column number pairs left m now below starts run x y shows gives =
        takes total lane column number pairs left m now below (λ r on. starts r on ∙ ap (stored_at old) (same r 0 on))
        (ran_weaker (λ p j q. ChangesAfter g (left (lane j) (column j)) (stored_at old (other (lane j) (suc (column j)))) (left (lane j) (suc (column j))) p q)
        (λ p j q. ChangesAfter g (left (lane j) (column j)) (stored_at old (place (lane j) (suc (column j)))) (left (lane j) (suc (column j))) p q) first now m
        (λ p j q under call. subst (λ o. ChangesAfter g (left (lane j) (column j)) o (left (lane j) (suc (column j))) p q) (ap (stored_at old) (same (lane j) (suc (column j)) (pairs.lane_below j (omega (arith, under, below))))) call) run)
        x y shows (ap (stored_at old) (sym (same (lane m) (suc (column m)) (pairs.lane_below m below))) ∙ gives)

    pub lanes_done_alike : (new : ℕ → Option A) (last : F) → AreAccumulated g other lanes w old new first last → AreAccumulated g place lanes w old new first last
    lanes_done_alike new last done =
        let lane = done.lane in
        let column = done.column in
        record {
          all = done.all;
          lane = lane;
          column = column;
          number = done.number;
          pairs = done.pairs;
          calls = ran_weaker (λ p j q. ChangesAfter g (stored_at new (other (lane j) (column j))) (stored_at old (other (lane j) (suc (column j)))) (stored_at new (other (lane j) (suc (column j)))) p q)
              (λ p j q. ChangesAfter g (stored_at new (place (lane j) (column j))) (stored_at old (place (lane j) (suc (column j)))) (stored_at new (place (lane j) (suc (column j)))) p q) first last done.all
              (λ p j q below call.
              let on = done.pairs.lane_below j below in
              let here = same (lane j) (column j) on in
              let next = same (lane j) (suc (column j)) on in
              subst (λ o. ChangesAfter g (stored_at new o) (stored_at old (place (lane j) (suc (column j)))) (stored_at new (place (lane j) (suc (column j)))) p q) here
              (subst (λ o. ChangesAfter g (stored_at new (other (lane j) (column j))) (stored_at old o) (stored_at new o) p q) next call)) done.calls;
          left = λ p nowhere. done.left p (λ r k on under e. nowhere r k on under (sym (same r (suc k) on) ∙ e));
        }
