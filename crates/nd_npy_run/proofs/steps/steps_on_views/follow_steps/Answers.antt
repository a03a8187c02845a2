use Rattle.std.proofs.Common.{◌+◌, drop, map}
use Rattle.nd_array_core.specs.ArrayMeaning.{meaning_of}
use Rattle.nd_npy_run.specs.ViewSelectAndReshapeSteps.{asked_npy_step}
use Rattle.nd_npy_run.specs.StepListResults.{rest_of_steps}
use Rattle.nd_npy_run.proofs.StepsFollowedOnView.{follow_starts, follow_more, follow_stops, follow_ends, views_start, view_here, views_more}
use Rattle.nd_npy_run.proofs.steps.steps_on_views.follow_steps.Goals as goal

pub loop-nth-init : goal.loop-nth-init
loop-nth-init g c = (follow_starts c.args.steps.now c.args.done (meaning_of c.args.view.now), views_start c.args.steps.now c.args.done c.requires.views)

pub advance_view-requires : goal.advance_view-requires
advance_view-requires g c = view_here c.args.steps.now c.loop-nth.nth c.index-steps-nth.result c.index-steps-nth.is c.loop-nth-test.true c.loop-nth.invariant.1

pub loop-nth-preserved : goal.loop-nth-preserved
loop-nth-preserved g c = (
  follow_more c.args.steps.now c.loop-nth.nth (meaning_of c.loop-nth.view) (rest_of_steps c.args.done (map asked_npy_step c.args.steps.now) (meaning_of c.args.view.now)) c.loop-nth.invariant.0
      c.index-steps-nth.result (meaning_of c.advance_view.new.view) c.index-steps-nth.is c.loop-nth-test.true c.in_default.ensures,
  views_more c.args.steps.now c.loop-nth.nth c.index-steps-nth.result c.loop-nth-test.true c.loop-nth.invariant.1,
)

pub returns-in-Some-clause-ends : goal.returns-in-Some-clause-ends
returns-in-Some-clause-ends g c =
    follow_stops c.args.steps.now c.loop-nth.nth (meaning_of c.loop-nth.view) (rest_of_steps c.args.done (map asked_npy_step c.args.steps.now) (meaning_of c.args.view.now)) c.loop-nth.invariant.0
    c.index-steps-nth.result c.in-Some.cause c.index-steps-nth.is c.loop-nth-test.true c.in-Some.ensures

pub returns-clause-ends : goal.returns-clause-ends
returns-clause-ends g c =
    follow_ends c.args.steps.now c.loop-nth.nth (meaning_of c.loop-nth.view) (rest_of_steps c.args.done (map asked_npy_step c.args.steps.now) (meaning_of c.args.view.now)) c.loop-nth.invariant.0 c.loop-nth-test.false

pub returns-clause-along : goal.returns-clause-along
returns-clause-along g c = c.steps_lead_along.ensures (c.args.done + 1) (drop c.args.done (map asked_npy_step c.args.steps.now)) (meaning_of c.args.view.now) (meaning_of c.loop-nth.view) (returns-clause-ends g c)
