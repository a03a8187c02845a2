use Rattle.std.proofs.Common.{◌≡◌, ◌+◌, true, drop, map}
use Rattle.nd_array_core.specs.ArrayMeaning.{meaning_of}
use Rattle.nd_npy_run.specs.ViewSelectAndReshapeSteps.{asked_npy_step, are_viewed}
use Rattle.nd_npy_run.specs.StepListResults.{steps_result, rest_of_steps}
use Rattle.nd_npy_run.proofs.steps.steps_on_views.follow_steps.Given as goal

-- the steps that are left, taken on what the view shows, are all that were to be taken from the start; and all of them
-- lead to views
abbrev pub invariant-loop-nth : goal.invariant-loop-nth
invariant-loop-nth g l =
    (steps_result (l.nth + 1) (map asked_npy_step (drop l.nth l.steps)) (meaning_of l.view) ≡ rest_of_steps l.fn.done (map asked_npy_step l.steps) (meaning_of l.fn.view))
    × (are_viewed (map asked_npy_step (drop l.nth l.steps)) ≡ true)
