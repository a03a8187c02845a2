use Rattle.std.proofs.Common.{refl}
use Rattle.nd_array_core.specs.ArrayMeaning.{meaning_of}
use Rattle.nd_read.specs.ScriptCalls.{asked_step}
use Rattle.nd_steps.proofs.StepEquations.{same_meaning}
use Rattle.nd_npy_run.proofs.StepsFollowedOnView.{copied_step}
use Rattle.nd_npy_run.proofs.steps.steps_on_arrays.copied.Goals as goal

pub returns-in-Ok : goal.returns-in-Ok
returns-in-Ok g c =
    let same = same_meaning (meaning_of c.args.array.now) (meaning_of c.view-view.result) c.view-view.ensures.whole.0 c.view-view.ensures.whole.2 in
    let copy = same_meaning (meaning_of c.advance.new.view) (meaning_of c.in-Ok.owned) c.in-Ok.ensures.shape c.in-Ok.ensures.elements in
    copied_step (asked_step c.args.step.now) _ _ _ _ c.in-None.ensures same copy

pub returns-in-Err : goal.returns-in-Err
returns-in-Err g c =
    let same = same_meaning (meaning_of c.args.array.now) (meaning_of c.view-view.result) c.view-view.ensures.whole.0 c.view-view.ensures.whole.2 in
    (meaning_of c.advance.new.view, copied_step (asked_step c.args.step.now) _ _ _ _ c.in-None.ensures same refl, c.in-Err.ensures.refused)
