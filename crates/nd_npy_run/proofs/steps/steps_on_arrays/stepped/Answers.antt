use Rattle.std.proofs.Common.{◌≡◌, ◌∙◌, false, None, Some, sym, ap}
use Rattle.nd_array_core.specs.ArrayMeaning.{meaning_of, shape_of}
use Rattle.nd_read.specs.ScriptCalls.{asked_step}
use Rattle.nd_steps.specs.StepTestsAndShapes.{keep_refusal, refusal, shares}
use Rattle.nd_npy_run.proofs.SingleStepResults.{kept_tests, viewed_refused}
use Rattle.nd_npy_run.proofs.StepsFollowedOnView.{kept_step}
use Rattle.nd_npy_run.proofs.steps.steps_on_arrays.stepped.Goals as goal

pub returns-then-shares : goal.returns-then-shares
returns-then-shares g c = c.copied.ensures

pub take_step-requires : goal.take_step-requires
take_step-requires g c = ap (keep_refusal (asked_step c.args.step.now)) (sym c.shape.ensures.value) ∙ sym c.in-None.ensures

pub returns-in-None : goal.returns-in-None
returns-in-None g c =
    let step = asked_step c.args.step.now in
    let allowed : keep_refusal step (shape_of c.args.array) ≡ None = ap (keep_refusal step) (sym c.shape.ensures.value) ∙ sym c.in-None.ensures in
    kept_step step (meaning_of c.args.array) (meaning_of c.take_step.result) allowed c.take_step.ensures.shape c.take_step.ensures.elements

pub returns-in-Some : goal.returns-in-Some
returns-in-Some g c =
    let step = asked_step c.args.step.now in
    let ns = shape_of c.args.array in
    let alone : shares step ≡ false = sym c.shares.ensures ∙ c.if-shares.false in
    let refused : refusal step ns ≡ Some c.in-Some.cause = sym (kept_tests step ns alone) ∙ (ap (keep_refusal step) (sym c.shape.ensures.value) ∙ sym c.in-Some.ensures) in
    rw c.refused_for.ensures (viewed_refused step (meaning_of c.args.array) c.args.number c.in-Some.cause refused)
