-- Laws of lists of steps.
use Rattle.std.specs.Prelude.{◌≡◌, ℕ, List, Ok, None}
use Rattle.nd_array_core.specs.LayoutLaws.{LeadsInside}
use Rattle.nd_array_core.specs.ArrayMeaning.{Meaning}
use Rattle.nd_npy_run.specs.ViewSelectAndReshapeSteps.{AskedNpyStep}
use Rattle.nd_npy_run.specs.StepResults.{npy_refusal, npy_step_shape, npy_step_index, LeadsAlongSteps}
use Rattle.nd_npy_run.specs.StepListResults.{steps_result}

-- Each index of the array that a step makes names an index of the array that it came from.
abbrev pub NpyStepsLeadInside : Type 0
NpyStepsLeadInside = (step : AskedNpyStep) (ns : List ℕ) → npy_refusal step ns ≡ None → LeadsInside (npy_step_shape step ns) (npy_step_index step ns) ns

-- The map of steps none of which is refused is the composition of their maps.
abbrev pub StepsLeadAlong : Type 0 → Type 0
StepsLeadAlong A = (n : ℕ) (steps : List AskedNpyStep) (m end : Meaning A) → steps_result n steps m ≡ Ok end → LeadsAlongSteps steps m end
