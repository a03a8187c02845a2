use Rattle.nd_shape_and_slice.proofs.NamesFromOtherCrates.{◌*◌, ◌+◌, ◌/◌, ◌^◌, arith}
use Rattle.nd_shape_and_slice.proofs.FirstMultipleOfProgression.{found, never, never_by_rest, quotient_below}
use Rattle.nd_shape_and_slice.proofs.elements_in_common.+first_multiple.Goals as goal

pub returns-then-rest-eq0 : goal.returns-then-rest-eq0
returns-then-rest-eq0 t c = never_by_rest c.args.divisor c.args.start c.args.step c.requires c.if-over-eq0.false c.if-rest-eq0.true

pub returns-in-Some : goal.returns-in-Some
returns-in-Some t c = found c.args.divisor c.args.start c.args.step c.in-Some.turns c.in-Some.steps c.requires c.if-over-eq0.false c.if-rest-eq0.false c.in-Some.ensures

pub returns-in-None : goal.returns-in-None
returns-in-None t c = never c.args.divisor c.args.start c.args.step c.requires c.if-over-eq0.false c.in-None.ensures

pub overflow_mul-result : goal.overflow_mul-result
overflow_mul-result t c =
    let answer = found c.args.divisor c.args.start c.args.step c.in-Some.turns c.in-Some.steps c.requires c.if-over-eq0.false c.if-rest-eq0.false c.in-Some.ensures in
    let below = quotient_below c.args.divisor c.args.start c.args.step c.in-Some.steps (c.args.step / c.args.divisor * c.in-Some.steps + c.in-Some.turns + (c.args.start / c.args.divisor + 1)) (2 ^ 64) answer.equal answer.below c.ranges.start.fits c.ranges.step.fits in
    omega (arith, below)

pub overflow_add-result : goal.overflow_add-result
overflow_add-result t c =
    let answer = found c.args.divisor c.args.start c.args.step c.in-Some.turns c.in-Some.steps c.requires c.if-over-eq0.false c.if-rest-eq0.false c.in-Some.ensures in
    let below = quotient_below c.args.divisor c.args.start c.args.step c.in-Some.steps (c.args.step / c.args.divisor * c.in-Some.steps + c.in-Some.turns + (c.args.start / c.args.divisor + 1)) (2 ^ 64) answer.equal answer.below c.ranges.start.fits c.ranges.step.fits in
    omega (arith, below)

pub overflow_add-result-in-Some-2 : goal.overflow_add-result-in-Some-2
overflow_add-result-in-Some-2 t c =
    let answer = found c.args.divisor c.args.start c.args.step c.in-Some.turns c.in-Some.steps c.requires c.if-over-eq0.false c.if-rest-eq0.false c.in-Some.ensures in
    let below = quotient_below c.args.divisor c.args.start c.args.step c.in-Some.steps (c.args.step / c.args.divisor * c.in-Some.steps + c.in-Some.turns + (c.args.start / c.args.divisor + 1)) (2 ^ 64) answer.equal answer.below c.ranges.start.fits c.ranges.step.fits in
    omega (arith, below)
