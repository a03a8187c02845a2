use Rattle.nd_shape_and_slice.proofs.FirstMultipleOfProgression.{shared_where, missed_where, never_where}
use Rattle.nd_shape_and_slice.proofs.elements_in_common.meets_from.Goals as goal

pub returns-then-in_high-high : goal.returns-then-in_high-high
returns-then-in_high-high c = shared_where c.args.low.low c.args.low.distance c.args.low.count c.args.high.low c.args.high.distance c.args.high.count c.in-Some.in_high c.in-Some.in_low c.requires.distance c.requires.order c.in-Some.ensures c.if-in_high-high.true

pub returns-else-in_high-high : goal.returns-else-in_high-high
returns-else-in_high-high c = missed_where c.args.low.low c.args.low.distance c.args.low.count c.args.high.low c.args.high.distance c.args.high.count c.in-Some.in_high c.in-Some.in_low c.requires.distance c.requires.order c.in-Some.ensures c.if-in_high-high.false

pub returns-in-None : goal.returns-in-None
returns-in-None c = never_where c.args.low.low c.args.low.distance c.args.low.count c.args.high.low c.args.high.distance c.args.high.count c.requires.order c.in-None.ensures
