use Rattle.std.proofs.Common.{rules}
use Rattle.nd_steps.proofs.StepChecks.{tested_more}
use Rattle.nd_steps.proofs.checked_view_calls.check_elements.Goals as goal

pub loop-element-preserved : goal.loop-element-preserved
loop-element-preserved c =
    let loop = c.loop-element in
    tested_more c.args.shape.now c.args.elements.now loop.axis loop.element-index c.axis_after-axis.result _ (search rules) (search rules) loop.invariant (search rules) c.axis_after-axis.ensures
