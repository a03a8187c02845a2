use Rattle.std.proofs.Common.{◌∷◌, ◌++◌, [], map, ap, ◌∙◌}
use Rattle.std.proofs.lemmas.List.{take_all}
use Rattle.nd_array_core.specs.ArrayMeaning.{meaning_of}
use Rattle.nd_array_core.specs.growth.AppendEach.{meanings_of}
use Rattle.nd_steps.proofs.StepEquations.{same_meaning}
use Rattle.nd_run.proofs.JoinedArrays.{viewed_more}
use Rattle.nd_run.proofs.concatenate_and_stack.views_of.Goals as goal

pub loop-other-init : goal.loop-other-init
loop-other-init g c =
    let seen = same_meaning (meaning_of c.args.array.now) (meaning_of c.view.result) c.view.ensures.whole.0 c.view.ensures.whole.2 in
    ap (λ vs. meanings_of vs) (c.in_ok-push.ensures.items ∙ ap (λ vs. vs ++ c.view.result ∷ []) c.in_ok-views.ensures.items) ∙ ap (λ m. m ∷ []) seen

pub loop-other-preserved : goal.loop-other-preserved
loop-other-preserved g c =
    let held = g.T.HoldsArray.held in
    let other = c.other-item.result in
    let view = c.view-in-loop-other.result in
    let seen = same_meaning (meaning_of c.array.result.now) (meaning_of view) c.view-in-loop-other.ensures.whole.0 c.view-in-loop-other.ensures.whole.2 ∙ c.array.ensures in
    ap (λ vs. meanings_of vs) c.in_ok-push-2.ensures.items
    ∙ viewed_more (λ v. meaning_of v) held c.loop-other.views.items view (meaning_of c.args.array.now) c.args.others.now c.loop-other.other-index other c.loop-other-test.true c.other-item.is c.loop-other.invariant seen

pub returns : goal.returns
returns g c = c.loop-other.invariant ∙ ap (λ zs. meaning_of c.args.array.now ∷ map g.T.HoldsArray.held zs) (take_all c.loop-other.other-index c.args.others.now c.loop-other-test.false)
