use Rattle.std.proofs.Common.{◌≡◌, Ok, map, take}
use Rattle.nd_array_core.specs.ArrayMeaning.{meaning_of}
use Rattle.nd_npy_run.specs.ViewSelectAndReshapeSteps.{asked_npy_step}
use Rattle.nd_npy_run.specs.StepListResults.{array_after_steps}
use Rattle.nd_npy_run.proofs.steps.steps_on_arrays.take_steps.Given as goal

-- the array is that after the steps so far
abbrev pub invariant-loop-nth : goal.invariant-loop-nth
invariant-loop-nth g l = array_after_steps (map asked_npy_step (take l.nth l.steps)) (meaning_of l.fn.array) ≡ Ok (meaning_of l.array)
