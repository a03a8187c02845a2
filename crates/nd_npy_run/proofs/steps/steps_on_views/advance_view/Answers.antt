use Rattle.nd_array_core.specs.ArrayMeaning.{meaning_of}
use Rattle.nd_read.specs.ScriptCalls.{asked_step}
use Rattle.nd_npy_run.proofs.StepsFollowedOnView.{viewed_ok, viewed_err}
use Rattle.nd_npy_run.proofs.steps.steps_on_views.advance_view.Goals as goal

pub returns-in-Some : goal.returns-in-Some
returns-in-Some g c = rw c.in-View.is (viewed_err (asked_step c.in-View.step) (meaning_of c.args.view.now) c.in-Some.cause c.in-Some.ensures)

pub returns-in-None : goal.returns-in-None
returns-in-None g c = rw c.in-View.is (viewed_ok (asked_step c.in-View.step) (meaning_of c.args.view.now) (meaning_of c.advance.new.view) c.in-None.ensures)
