use Rattle.std.proofs.Common.{◌≡◌, ◌∙◌, ap, None, Some, refl}
use Rattle.nd_array_core.specs.ArrayMeaning.{meaning_of}
use Rattle.nd_read.specs.ScriptCalls.{asked_step, Keeping}
use Rattle.nd_steps.specs.StepTestsAndShapes.{keep_refusal, step_shape, step_index}
use Rattle.nd_steps.specs.StepListResults.{step_meaning}
use Rattle.nd_steps.proofs.StepEquations.{seen_is}
use Rattle.nd_run.proofs.ReplyAndArrayOfOneCall.{carried}
use Rattle.nd_run.proofs.run_calls.keep.Goals as goal

pub returns-in-None : goal.returns-in-None
returns-in-None g c =
    let step = asked_step c.args.step.now in
    let m = meaning_of c.args.array.now in
    let out = meaning_of c.taken.result in
    let new = meaning_of c.take_step.result in
    let free : None ≡ keep_refusal step m.shape = c.in-None.ensures ∙ ap (keep_refusal step) c.shape.ensures.value in
    let is : new ≡ step_meaning step out = seen_is out new (step_shape step out.shape) (step_index step out.shape) c.take_step.ensures.shape c.take_step.ensures.elements in
    carried g.A.PartialEq.eq (Keeping step) m None new free refl (is ∙ ap (λ a. step_meaning step (meaning_of a)) c.taken.ensures)

pub returns-in-Some : goal.returns-in-Some
returns-in-Some g c =
    let step = asked_step c.args.step.now in
    let m = meaning_of c.args.array.now in
    let refused : Some c.in-Some.cause ≡ keep_refusal step m.shape = c.in-Some.ensures ∙ ap (keep_refusal step) c.shape.ensures.value in
    rw c.number.ensures (carried g.A.PartialEq.eq (Keeping step) m (Some c.in-Some.cause) m refused refl refl)
