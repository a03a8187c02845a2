use Rattle.std.proofs.Common.{◌≡◌, map, drop}
use Rattle.nd_array_core.specs.ArrayMeaning.{meaning_of}
use Rattle.nd_read.specs.ScriptCalls.{asked_step}
use Rattle.nd_steps.specs.StepTestsAndShapes.{tests_of}
use Rattle.nd_steps.specs.StepListResults.{path_result}
use Rattle.nd_steps.proofs.checked_view_calls.follow_path.Given as goal

-- the rest of the path leads where the whole path leads
abbrev pub invariant-loop-step : goal.invariant-loop-step
invariant-loop-step g l = path_result tests_of (map asked_step (drop l.step-index l.path)) (meaning_of l.view) ≡ path_result tests_of (map asked_step l.path) (meaning_of l.fn.view)
