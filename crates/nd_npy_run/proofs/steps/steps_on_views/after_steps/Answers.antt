use Rattle.std.proofs.Common.{◌∙◌, ◌≤◌, Ok, length, map, sym, ap, arith}
use Rattle.std.proofs.lemmas.List.{length-map}
use Rattle.nd_array_core.specs.ArrayMeaning.{meaning_of}
use Rattle.nd_steps.proofs.StepEquations.{same_meaning}
use Rattle.nd_npy_run.specs.ViewSelectAndReshapeSteps.{asked_npy_step}
use Rattle.nd_npy_run.specs.StepListResults.{rest_of_steps}
use Rattle.nd_npy_run.proofs.StepListsJoined.{after_all, lacks_at_end}
use Rattle.nd_npy_run.proofs.steps.steps_on_views.after_steps.Goals as goal

pub returns-in-Ok-to_owned-clause-ends : goal.returns-in-Ok-to_owned-clause-ends
returns-in-Ok-to_owned-clause-ends g c =
    let steps = map asked_npy_step c.args.steps.now in
    let few : c.copying_steps-done.result ≤ length steps = omega (arith, c.copying_steps-done.ensures.few, length-map c.args.steps.now asked_npy_step) in
    let same = same_meaning (meaning_of c.in-Ok.array) (meaning_of c.view-view.result) c.view-view.ensures.whole.0 c.view-view.ensures.whole.2 in
    let copy = same_meaning (meaning_of c.follow_steps.new.view) (meaning_of c.in-Ok-to_owned.owned) c.in-Ok-to_owned.ensures.shape c.in-Ok-to_owned.ensures.elements in
    after_all steps c.copying_steps-done.result _ _ few c.in-Ok.ensures ∙ ap (rest_of_steps c.copying_steps-done.result steps) (sym same) ∙ c.in-Ok-follow_steps.ensures.ends ∙ ap Ok (sym copy)

pub returns-in-Ok-to_owned-clause-along : goal.returns-in-Ok-to_owned-clause-along
returns-in-Ok-to_owned-clause-along g c = c.steps_lead_along.ensures 1 (map asked_npy_step c.args.steps.now) (meaning_of c.args.array) (meaning_of c.in-Ok-to_owned.owned) (returns-in-Ok-to_owned-clause-ends g c)

pub returns-in-Ok-follow_steps-clause-ends : goal.returns-in-Ok-follow_steps-clause-ends
returns-in-Ok-follow_steps-clause-ends g c =
    let steps = map asked_npy_step c.args.steps.now in
    let few : c.copying_steps-done.result ≤ length steps = omega (arith, c.copying_steps-done.ensures.few, length-map c.args.steps.now asked_npy_step) in
    let same = same_meaning (meaning_of c.in-Ok.array) (meaning_of c.view-view.result) c.view-view.ensures.whole.0 c.view-view.ensures.whole.2 in
    let after = after_all steps c.copying_steps-done.result _ _ few c.in-Ok.ensures ∙ ap (rest_of_steps c.copying_steps-done.result steps) (sym same) ∙ c.in-Ok-follow_steps.ensures.ends in
    lacks_at_end steps (meaning_of c.args.array) (meaning_of c.follow_steps.new.view) after c.in-Err-to_owned.ensures.refused

pub returns-clause-ends : goal.returns-clause-ends
returns-clause-ends g c =
    let steps = map asked_npy_step c.args.steps.now in
    let few : c.copying_steps-done.result ≤ length steps = omega (arith, c.copying_steps-done.ensures.few, length-map c.args.steps.now asked_npy_step) in
    let same = same_meaning (meaning_of c.in-Ok.array) (meaning_of c.view-view.result) c.view-view.ensures.whole.0 c.view-view.ensures.whole.2 in
    after_all steps c.copying_steps-done.result _ _ few c.in-Ok.ensures ∙ ap (rest_of_steps c.copying_steps-done.result steps) (sym same) ∙ c.in-Err-follow_steps.ensures.ends
