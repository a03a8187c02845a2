use Rattle.nd_layout.proofs.NamesFromOtherCrates.{arith, rules, ◌<◌, ◌+◌, ℕ, refl, Fits, FitsSigned, w64, to_z-of_z}
use Rattle.nd_layout.proofs.walk_lemmas.PlacesCutIntoLanes.{next_small, next_lane, next_reach, next_from, next_passed, next_given}
use Rattle.nd_layout.proofs.walk.lanes.Lanes.next.Goals as goal

fits : (x : ℕ) → x < 9223372036854775808 → Fits w64 x
fits x h = omega (arith, h)

pub overflow_add-self : goal.overflow_add-self
overflow_add-self c =
    let lanes = c.args.self.now in
    fits (lanes.given + 1) (next_given lanes.first lanes.lengths.now lanes.strides.now _ _ lanes.count lanes.stride lanes.begin lanes.rank lanes.given lanes.passed lanes.checked lanes.some c.in-Some.ensures.place.0)

pub overflow_add-self-in-Some : goal.overflow_add-self-in-Some
overflow_add-self-in-Some c =
    let lanes = c.args.self.now in
    fits (lanes.rank + lanes.count) (next_small lanes.first lanes.lengths.now lanes.strides.now _ _ lanes.count lanes.stride lanes.begin lanes.rank lanes.given lanes.passed lanes.checked c.in-Some.ensures.place.0)

pub invariant_of-result : goal.invariant_of-result
invariant_of-result c =
    let lanes = c.args.self.now in
    let at = c.in-Some.ensures.place in
    let signed : FitsSigned w64 lanes.stride = search rules in
    let small = next_small lanes.first lanes.lengths.now lanes.strides.now _ _ lanes.count lanes.stride lanes.begin lanes.rank lanes.given lanes.passed lanes.checked at.0 in
    record {
      few = omega (arith, small);
      from = λ some. next_from lanes.first lanes.lengths.now lanes.strides.now _ _ lanes.count lanes.stride lanes.begin lanes.rank lanes.given lanes.passed lanes.reach c.in-Some.place some at.0 at.1;
      reach = rw (to_z-of_z w64 lanes.stride signed) (next_reach lanes.first lanes.lengths.now lanes.strides.now _ _ lanes.count lanes.stride lanes.begin lanes.rank lanes.given lanes.passed lanes.reach c.in-Some.place lanes.some at.0 at.1);
    }

pub invariant_of-self : goal.invariant_of-self
invariant_of-self c =
    let lanes = c.args.self.now in
    record {
      some = lanes.some;
      passed = next_passed lanes.first lanes.lengths.now lanes.strides.now _ _ lanes.count lanes.stride lanes.begin lanes.rank lanes.given lanes.passed;
      stands = c.in-Some.ensures.given;
      checked = lanes.checked;
      reach = lanes.reach;
      begin = rw (c.next.ensures.over.0, c.next.ensures.over.1) lanes.begin;
      along = lanes.along;
    }

pub returns-in-Some-clause-over : goal.returns-in-Some-clause-over
returns-in-Some-clause-over c = (refl, refl, refl)

pub returns-in-Some-clause-lane : goal.returns-in-Some-clause-lane
returns-in-Some-clause-lane c =
    let lanes = c.args.self.now in
    let at = c.in-Some.ensures.place in
    let signed : FitsSigned w64 lanes.stride = search rules in
    (rw (to_z-of_z w64 lanes.stride signed) (next_lane lanes.first lanes.lengths.now lanes.strides.now _ _ lanes.count lanes.stride lanes.begin lanes.rank lanes.given lanes.passed c.in-Some.place lanes.some at.0 at.1), refl)

pub returns-in-Some-clause-along : goal.returns-in-Some-clause-along
returns-in-Some-clause-along c =
    let lanes = c.args.self.now in
    let at = c.in-Some.ensures.place in
    let signed : FitsSigned w64 lanes.stride = search rules in
    let lane = next_lane lanes.first lanes.lengths.now lanes.strides.now _ _ lanes.count lanes.stride lanes.begin lanes.rank lanes.given lanes.passed c.in-Some.place lanes.some at.0 at.1 in
    rw (to_z-of_z w64 lanes.stride signed) (lanes.along (omega (arith, lane.some, lane.within)))
