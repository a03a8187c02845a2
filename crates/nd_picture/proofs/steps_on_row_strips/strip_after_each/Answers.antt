use Rattle.nd_picture.proofs.RowwiseSteps.{strip_more, strip_end}
use Rattle.nd_picture.proofs.steps_on_row_strips.strip_after_each.Goals as goal

pub loop-nth-preserved : goal.loop-nth-preserved
loop-nth-preserved c = strip_more c.args.maxval c.args.steps.now c.args.strip c.loop-nth.nth c.loop-nth.strip _ c.loop-nth-test.true c.loop-nth.invariant c.in-Ok.next c.in-Ok.ensures

pub returns : goal.returns
returns c = strip_end c.args.maxval c.args.steps.now c.args.strip c.loop-nth.nth c.loop-nth.strip c.loop-nth-test.false c.loop-nth.invariant
