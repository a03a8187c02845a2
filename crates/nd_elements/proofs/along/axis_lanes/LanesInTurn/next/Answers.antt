use Rattle.nd_elements.proofs.NamesFromOtherCrates.{◌≡◌, ◌<◌, ◌+◌, ◌∙◌, refl, ℕ, arith, pos, ◌+ℤ◌, ◌*ℤ◌, ap, subst, rules, Fits, w64, to_z-of_z, size_of, size-le-product, is_place, place_at_rank}
use Rattle.nd_elements.proofs.along.axis_lanes.LanesInTurn.next.Goals as goal

pub overflow_add-self : goal.overflow_add-self
overflow_add-self c =
    let turns = c.args.self.now in
    let ls = turns.lanes.firsts.lengths.now in
    fits turns.given (size_of ls) (subst (λ n. turns.given < n) turns.over.0 c.in-Some.ensures.place.0) (omega (arith, size-le-product ls, turns.lanes.firsts.checked))
  where
    fits : (n m : ℕ) → n < m → m < 9223372036854775808 → Fits w64 (n + 1)
    fits n m h e = omega (arith, h, e)

pub lane_from-requires-clause-reach : goal.lane_from-requires-clause-reach
lane_from-requires-clause-reach c k below =
    let turns = c.args.self.now in
    let firsts = turns.lanes.firsts in
    let at : pos c.in-Some.place ≡ place_at_rank firsts.first firsts.lengths.now firsts.strides.now turns.given = c.in-Some.ensures.place.1 ∙ ap (λ f. f turns.given) turns.over.1 in
    ap is_place (λ i. at i +ℤ (pos k *ℤ to_z-of_z w64 turns.lanes.stride (search rules) i)) ∙ turns.lanes.lie turns.given k (subst (λ n. turns.given < n) turns.over.0 c.in-Some.ensures.place.0) below

pub returns-in-Some-clause-lane : goal.returns-in-Some-clause-lane
returns-in-Some-clause-lane c =
    let turns = c.args.self.now in
    let firsts = turns.lanes.firsts in
    let stride = turns.lanes.stride in
    let at : pos c.in-Some.place ≡ place_at_rank firsts.first firsts.lengths.now firsts.strides.now turns.given = c.in-Some.ensures.place.1 ∙ ap (λ f. f turns.given) turns.over.1 in
    let below = subst (λ n. turns.given < n) turns.over.0 c.in-Some.ensures.place.0 in
    let lies = c.lane_from.ensures.lane in
    let given : (k : ℕ) → pos c.lane_from.result.place +ℤ (pos k *ℤ c.lane_from.result.stride) ≡ pos c.in-Some.place +ℤ (pos k *ℤ stride) = λ k i. pos (lies.0 i) +ℤ (pos k *ℤ (lies.2 ∙ to_z-of_z w64 stride (search rules)) i) in
    ((below, lies.1, λ k. given k ∙ ap (λ z. z +ℤ (pos k *ℤ stride)) at), refl)

pub invariant_of-self : goal.invariant_of-self
invariant_of-self c =
    let turns = c.args.self.now in
    record {
      over = (c.next.ensures.over.0 ∙ turns.over.0, c.next.ensures.over.1 ∙ turns.over.1);
      stands = c.in-Some.ensures.given;
    }
