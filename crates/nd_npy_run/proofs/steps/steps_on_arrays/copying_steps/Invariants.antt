use Rattle.std.proofs.Common.{◌≤◌, ◌≡◌, true, drop, length, map}
use Rattle.nd_npy_run.specs.ViewSelectAndReshapeSteps.{asked_npy_step, are_viewed}
use Rattle.nd_npy_run.proofs.steps.steps_on_arrays.copying_steps.Given as goal

-- the steps from the count on lead to views
abbrev pub invariant-loop-count : goal.invariant-loop-count
invariant-loop-count l = (l.count ≤ length l.steps) × (are_viewed (drop l.count (map asked_npy_step l.steps)) ≡ true)

abbrev pub decreases-loop-count : goal.decreases-loop-count
decreases-loop-count l = l.count
