-- Lane after lane gone along.
use Rattle.nd_elements.proofs.NamesFromOtherCrates.{◌≡◌, ℕ, suc, ◌+◌, ◌-◌, ◌*◌, ◌/◌, ◌%◌, ◌<◌, true, false, ℤ, pos, refl, ap, sym, subst, ◌∙◌, arith, fun_ext, Option, is_some, nat_eq, if◌then◌else◌, Bor, MutBor, Mut, nat_tests}
use Rattle.nd_elements.specs.StoragePlaces.{stored_at, names_place}
use Rattle.nd_elements.specs.elements.ElementFolds.{RanTo}
use Rattle.nd_elements.specs.along.AxisLanes.{LanesDistinct}
use Rattle.nd_elements.specs.along.AccumulateAlongAxis.{ChangesAfter, IsAccumulated, AreAccumulated, AccumulatesNumbered, TakesLane, TakesLanes}
use Rattle.nd_elements.proofs.BoolAndResultCases.{by_bool}
use Rattle.nd_elements.proofs.NumberedCalls.{ran_weaker, ran_then}
use Rattle.nd_elements.proofs.elements_lemmas.ElementsHandedToBeWritten.{stored_same}
use Rattle.nd_elements.proofs.along_lemmas.LaneNumbers.{number_lane, lane_number, lane_number_below, by_lanes}

module _ {F A : Type 0} (g : Mut F (Bor A × (MutBor A × Unit {0})) (Unit {0} × (MutBor A × Unit {0}))) where
  -- so many lanes gone along, one after the other
  pub record LanesAccumulated (place : ℕ → ℕ → ℤ) (lanes count : ℕ) (old new : ℕ → Option A) (first last : F) : Type 0 where
    pub calls : AccumulatesNumbered g (λ m. m / count) (λ m. m % count) (λ r k. stored_at old (place r k)) (λ r k. stored_at new (place r k)) first (lanes * count) last
    pub left : (p : ℕ) → ((r k : ℕ) → r < lanes → k < count → place r (suc k) ≡ pos p → ⊥) → new p ≡ old p

  pub lanes_none : (place : ℕ → ℕ → ℤ) (w : ℕ) (old : ℕ → Option A) (f : F) → LanesAccumulated place 0 w old old f f
  lanes_none place w old f = record {
    calls = let none : 0 ≡ 0 * w = omega arith in subst (λ n. AccumulatesNumbered g (λ m. m / w) (λ m. m % w) (λ r k. stored_at old (place r k)) (λ r k. stored_at old (place r k)) f n f) none refl;
    left = λ p nowhere. refl;
  }

  pub lanes_all : (place : ℕ → ℕ → ℤ) (lanes w : ℕ) (old new : ℕ → Option A) (first last : F) → LanesAccumulated place lanes w old new first last → AreAccumulated g place lanes w old new first last
  lanes_all place lanes w old new first last done = record { all = lanes * w; lane = λ m. m / w; column = λ m. m % w; number = λ r k. r * w + k; pairs = by_lanes lanes w; calls = done.calls; left = done.left }

  module _ (place : ℕ → ℕ → ℤ) (lanes w : ℕ) (apart : LanesDistinct place lanes (suc w)) (old now : ℕ → Option A) (first mid : F) (r : ℕ) (on : r < lanes) (so_far : LanesAccumulated place r w old now first mid) where
    -- the next lane holds what it held
    pub lane_still : (k : ℕ) → k < suc w → stored_at now (place r k) ≡ stored_at old (place r k)
    lane_still k below =
        stored_same old now (place r k) (λ p e. so_far.left p (λ q j earlier under f. let same = (apart q (suc j) r k (omega (arith, earlier, on)) on (omega (arith, under)) below (f ∙ sym e)).0 in absurd (omega (arith, same, earlier))))

    abbrev step : (ℕ → ℕ → Option A) → F → ℕ → F → Type 0
    step left p m q = ChangesAfter g (left (m / w) (m % w)) (stored_at old (place (m / w) (suc (m % w)))) (left (m / w) (suc (m % w))) p q

    pub lanes_more : (next : ℕ) → next ≡ r + 1 → (new : ℕ → Option A) (last : F) → IsAccumulated g (place r) w now new mid last → LanesAccumulated place next w old new first last
    lanes_more next is_next new last lane = subst (λ n. LanesAccumulated place n w old new first last) (sym is_next) (record { calls = calls; left = left })
      where
        kept : (q k : ℕ) → q < r → k < suc w → stored_at new (place q k) ≡ stored_at now (place q k)
        kept q k earlier below =
            stored_same now new (place q k) (λ p e. lane.left p (λ j under f. let same = (apart r (suc j) q k on (omega (arith, earlier, on)) (omega (arith, under)) below (f ∙ sym e)).0 in absurd (omega (arith, same, earlier))))

        seen_now : ℕ → ℕ → Option A
        seen_now q k = stored_at now (place q k)

        seen_new : ℕ → ℕ → Option A
        seen_new q k = stored_at new (place q k)

        many : r * w + w ≡ (r + 1) * w
        many = omega arith

        calls : RanTo (step seen_new) first ((r + 1) * w) last
        calls =
            subst (λ n. RanTo (step seen_new) first n last) many
            (ran_then (step seen_new) (λ p k q. ChangesAfter g (seen_new r k) (stored_at now (place r (suc k))) (seen_new r (suc k)) p q) first mid last (r * w) w
            (λ p k q below call.
            let numbers = lane_number w r k below in
            subst (λ m. ChangesAfter g (seen_new m ((r * w + k) % w)) (stored_at old (place m (suc ((r * w + k) % w)))) (seen_new m (suc ((r * w + k) % w))) p q) (sym numbers.0)
            (subst (λ m. ChangesAfter g (seen_new r m) (stored_at old (place r (suc m))) (seen_new r (suc m)) p q) (sym numbers.1)
            (subst (λ o. ChangesAfter g (seen_new r k) o (seen_new r (suc k)) p q) (lane_still (suc k) (omega (arith, below))) call)))
            (ran_weaker (step seen_now) (step seen_new) first mid (r * w)
            (λ p m q below call.
            let lane_of = number_lane r w m below in
            subst (λ o. ChangesAfter g o (stored_at old (place (m / w) (suc (m % w)))) (seen_new (m / w) (suc (m % w))) p q) (sym (kept (m / w) (m % w) lane_of.0 (let under = lane_of.1 in omega (arith, under))))
            (subst (λ o. ChangesAfter g (seen_now (m / w) (m % w)) (stored_at old (place (m / w) (suc (m % w)))) o p q) (sym (kept (m / w) (suc (m % w)) lane_of.0 (let under = lane_of.1 in omega (arith, under)))) call)) so_far.calls)
            lane.calls)

        left : (p : ℕ) → ((q k : ℕ) → q < r + 1 → k < w → place q (suc k) ≡ pos p → ⊥) → new p ≡ old p
        left p nowhere = lane.left p (λ k below. nowhere r k (omega arith) below) ∙ so_far.left p (λ q k earlier below. nowhere q k (omega (arith, earlier)) below)

    -- the next lane may be gone along
    pub lane_accumulable : TakesLanes g place lanes w old first → TakesLane g (place r) w now mid
    lane_accumulable takes seen k state below start run x y shows gives =
        let numbers = lane_number w r k below in
        takes (lanes * w) (λ m. m / w) (λ m. m % w) (λ q j. q * w + j) (by_lanes lanes w) joined (r * w + k) state (lane_number_below lanes w r k on below) starts
        (ran_then (step joined) (λ p j q. ChangesAfter g (seen j) (stored_at now (place r (suc j))) (seen (suc j)) p q) first mid state (r * w) k
        (λ p j q on_j call.
        let at = lane_number w r j (omega (arith, on_j, below)) in
        subst (λ m. ChangesAfter g (joined m ((r * w + j) % w)) (stored_at old (place m (suc ((r * w + j) % w)))) (joined m (suc ((r * w + j) % w))) p q) (sym at.0)
        (subst (λ m. ChangesAfter g (joined r m) (stored_at old (place r (suc m))) (joined r (suc m)) p q) (sym at.1)
        (subst (λ o. ChangesAfter g o (stored_at old (place r (suc j))) (joined r (suc j)) p q) (sym (here j))
        (subst (λ o. ChangesAfter g (seen j) (stored_at old (place r (suc j))) o p q) (sym (here (suc j)))
        (subst (λ o. ChangesAfter g (seen j) o (seen (suc j)) p q) (lane_still (suc j) (omega (arith, on_j, below))) call)))))
        (ran_weaker (step seen_now) (step joined) first mid (r * w)
        (λ p m q on_m call.
        let lane_of = number_lane r w m on_m in
        subst (λ o. ChangesAfter g o (stored_at old (place (m / w) (suc (m % w)))) (joined (m / w) (suc (m % w))) p q) (sym (there (m / w) (m % w) lane_of.0))
        (subst (λ o. ChangesAfter g (seen_now (m / w) (m % w)) (stored_at old (place (m / w) (suc (m % w)))) o p q) (sym (there (m / w) (suc (m % w)) lane_of.0)) call)) so_far.calls)
        run) x y
        ((λ i. joined (numbers.0 i) (numbers.1 i)) ∙ (here k ∙ shows))
        ((λ i. stored_at old (place (numbers.0 i) (suc (numbers.1 i)))) ∙ (sym (lane_still (suc k) (omega (arith, below))) ∙ gives))
      where
        seen_now : ℕ → ℕ → Option A
        seen_now q j = stored_at now (place q j)

        -- what the calls may have left: in this lane what they say, before it what is there, and in the others what was
        joined : ℕ → ℕ → Option A
        joined q j = if nat_eq q r then seen j else seen_now q j

        here : (j : ℕ) → joined r j ≡ seen j
        here j = let same : nat_eq r r ≡ true = grind (arith, nat_tests) in rw same refl

        there : (q j : ℕ) → q < r → joined q j ≡ seen_now q j
        there q j earlier = let other : nat_eq q r ≡ false = grind (arith, nat_tests, earlier) in rw other refl

        starts : (q : ℕ) → q < lanes → joined q 0 ≡ stored_at old (place q 0)
        starts q on_q = by_bool (nat_eq q r)
            (λ e. rw e (let same : q ≡ r = grind (arith, nat_tests, e) in rw same (start ∙ lane_still 0 (omega arith))))
            (λ e. rw e (stored_same old now (place q 0) (λ p at. so_far.left p (λ q' j earlier under f. let same = (apart q' (suc j) q 0 (omega (arith, earlier, on)) on_q (omega (arith, under)) (omega arith) (f ∙ sym at)).1 in absurd (omega (arith, same))))))

    -- the same for the lane by places of its own
    module _ (lane : ℕ → ℤ) (count : ℕ) (long : count - 1 ≡ w) (goes : (k : ℕ) → lane k ≡ place r k) where
      pub given_accumulable : TakesLanes g place lanes w old first → TakesLane g lane (count - 1) now mid
      given_accumulable takes = subst (λ h. TakesLane g h (count - 1) now mid) (sym (fun_ext goes)) (subst (λ m. TakesLane g (place r) m now mid) (sym long) (lane_accumulable takes))

      pub given_holds : ((q k : ℕ) → q < lanes → k < suc w → names_place old (place q k) ≡ true) → 0 < count → (k : ℕ) → k < count → names_place now (lane k) ≡ true
      given_holds holds some k below =
          let inside : k < suc w = omega (arith, below, some, long) in
          ap (names_place now) (goes k) ∙ (ap is_some (lane_still k inside) ∙ holds r k on inside)

      pub given_accumulated : (next : ℕ) → next ≡ r + 1 → (new : ℕ → Option A) (last : F) → IsAccumulated g lane (count - 1) now new mid last → LanesAccumulated place next w old new first last
      given_accumulated next is_next new last done =
          lanes_more next is_next new last (subst (λ m. IsAccumulated g (place r) m now new mid last) long (subst (λ h. IsAccumulated g h (count - 1) now new mid last) (fun_ext goes) done))
