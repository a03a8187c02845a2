use Rattle.std.proofs.Common.{◌∙◌, ◌-◌, sym, ap, arith}
use Rattle.nd_npy_run.specs.ViewSelectAndReshapeSteps.{asked_npy_step, is_viewed}
use Rattle.nd_npy_run.proofs.StepListsJoined.{views_one, copies_one}
use Rattle.nd_npy_run.proofs.steps.steps_on_arrays.copying_steps.Goals as goal

pub loop-count-preserved : goal.loop-count-preserved
loop-count-preserved c = (
  omega (arith, c.loop-count.invariant.0),
  views_one c.args.steps.now c.loop-count.count c.index-steps-count.result c.loop-count-test.true c.loop-count.invariant.0
      (ap (λ step. is_viewed (asked_npy_step step)) (sym c.index-steps-count.is) ∙ (sym c.is_view.ensures ∙ c.if-is_view.true)) c.loop-count.invariant.1,
)

pub returns-else-is_view-clause-copies : goal.returns-else-is_view-clause-copies
returns-else-is_view-clause-copies c = λ some.
    copies_one c.args.steps.now (c.loop-count.count - 1) c.index-steps-count.result (omega (arith, some, c.loop-count.invariant.0))
    (ap (λ step. is_viewed (asked_npy_step step)) (sym c.index-steps-count.is) ∙ (sym c.is_view.ensures ∙ c.if-is_view.false))
