use Rattle.nd_picture.proofs.StepsInTurn.{kinds_more, kinds_end}
use Rattle.nd_picture.proofs.image_steps_applied.kind_after_each.Goals as goal

pub loop-nth-preserved : goal.loop-nth-preserved
loop-nth-preserved c = kinds_more c.loop-nth.nth c.args.steps.now _ c.loop-nth.last c.kind_after-last.result _ c.loop-nth-test.true c.kind_after-last.ensures c.loop-nth.invariant

pub returns : goal.returns
returns c = kinds_end c.loop-nth.nth c.args.steps.now c.loop-nth.last _ c.loop-nth-test.false c.loop-nth.invariant
