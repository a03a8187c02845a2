use Rattle.std.proofs.Common.{sym}
use Rattle.nd_array_core.specs.ArrayMeaning.{meaning_of}
use Rattle.nd_steps.specs.StepTestsAndShapes.{tests_of}
use Rattle.nd_steps.proofs.WritePaths.{led_stops, led_all}
use Rattle.nd_steps.proofs.checked_view_calls.follow_path.Goals as goal

pub returns-in-Some-clause-refused : goal.returns-in-Some-clause-refused
returns-in-Some-clause-refused g c = sym (led_stops tests_of c.args.path.now c.loop-step.step-index c.step-item.result (meaning_of c.args.view.now) (meaning_of c.loop-step.view) c.in-Some.cause c.loop-step-test.true (sym c.step-item.is) c.in-Some.ensures c.loop-step.invariant)

pub returns-clause-refused : goal.returns-clause-refused
returns-clause-refused g c = sym (led_all tests_of (λ _ _ h. h) c.paths_lead_along.ensures c.args.path.now c.loop-step.step-index (meaning_of c.args.view.now) (meaning_of c.loop-step.view) c.loop-step-test.false c.loop-step.invariant).0

pub returns-clause-along : goal.returns-clause-along
returns-clause-along g c = λ _. (led_all tests_of (λ _ _ h. h) c.paths_lead_along.ensures c.args.path.now c.loop-step.step-index (meaning_of c.args.view.now) (meaning_of c.loop-step.view) c.loop-step-test.false c.loop-step.invariant).1
