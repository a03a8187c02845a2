-- Laws of steps and of paths.
use Rattle.std.specs.Prelude.{◌≡◌, List, None, Ok, ℕ}
use Rattle.nd_array_core.specs.LayoutLaws.{LeadsInside}
use Rattle.nd_array_core.specs.ArrayMeaning.{Meaning}
use Rattle.nd_read.specs.ScriptCalls.{AskedStep}
use Rattle.nd_steps.specs.StepListResults.{path_result, LeadsAlong}
use Rattle.nd_steps.specs.StepTestsAndShapes.{tests_of, refusal, step_shape, step_index}

-- Each index of the array that a step makes names an index of the array that it came from.
abbrev pub StepsLeadInside : Type 0
StepsLeadInside = (step : AskedStep) (ns : List ℕ) → refusal step ns ≡ None → LeadsInside (step_shape step ns) (step_index step ns) ns

-- The map of a path that isn't refused is the composition of its steps' maps.
abbrev pub PathsLeadAlong : Type 0 → Type 0
PathsLeadAlong A = (path : List AskedStep) (m n : Meaning A) → path_result tests_of path m ≡ Ok n → LeadsAlong path m n
