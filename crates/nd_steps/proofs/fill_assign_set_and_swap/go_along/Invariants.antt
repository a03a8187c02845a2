use Rattle.std.proofs.Common.{◌≡◌, map, drop}
use Rattle.nd_array_core.specs.ArrayMeaning.{storage_of, placed_array}
use Rattle.nd_read.specs.ScriptCalls.{asked_step}
use Rattle.nd_paths.specs.CallbacksOnViewsAndSplits.{places_in}
use Rattle.nd_steps.specs.StepTestsAndShapes.{keep_tests}
use Rattle.nd_steps.specs.StepListResults.{path_result}
use Rattle.nd_steps.proofs.fill_assign_set_and_swap.go_along.Given as goal

-- the rest of the path leads where the whole path leads, in the same storage
abbrev pub invariant-loop-step : goal.invariant-loop-step
invariant-loop-step g l = record {
  storage : storage_of l.array ≡ storage_of l.fn.array;
  led : path_result keep_tests (map asked_step (drop l.step-index l.path)) (places_in (placed_array l.array)) ≡ path_result keep_tests (map asked_step l.path) (places_in (placed_array l.fn.array));
}
