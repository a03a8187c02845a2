use Rattle.std.proofs.Common.{◌≡◌, ◌∙◌, ap, sym, None}
use Rattle.nd_array_core.specs.ArrayMeaning.{meaning_of, shape_of}
use Rattle.nd_read.specs.ScriptCalls.{asked_step}
use Rattle.nd_steps.specs.StepTestsAndShapes.{keep_refusal}
use Rattle.nd_steps.proofs.StepEquations.{taken_ok}
use Rattle.nd_steps.proofs.StepChecks.{keep_allows}
use Rattle.nd_steps.proofs.checked_view_calls.advance.Goals as goal

pub returns-in-None : goal.returns-in-None
returns-in-None g c =
    let step = asked_step c.args.step.now in
    let old = c.args.view.now in
    let allowed : keep_refusal step (shape_of old) ≡ None = ap (keep_refusal step) (sym c.shape.ensures.value) ∙ sym c.in-None.ensures in
    taken_ok step (meaning_of old) (meaning_of c.change_axes.new.array) (keep_allows step (shape_of old) allowed) c.change_axes.ensures.shape c.change_axes.ensures.elements

pub returns-in-None-2 : goal.returns-in-None-2
returns-in-None-2 g c =
    let step = asked_step c.args.step.now in
    let old = c.args.view.now in
    let allowed : keep_refusal step (shape_of old) ≡ None = ap (keep_refusal step) (sym c.shape.ensures.value) ∙ sym c.in-None.ensures in
    taken_ok step (meaning_of old) (meaning_of c.stepped.result) (keep_allows step (shape_of old) allowed) c.stepped.ensures.shape c.stepped.ensures.elements
