use Rattle.std.proofs.Common.{◌∙◌}
use Rattle.nd_array_core.specs.EqualityAndHashing.{equal_meanings}
use Rattle.nd_array_core.specs.ArrayMeaning.{meaning_of}
use Rattle.nd_steps.proofs.StepEquations.{same_meaning}
use Rattle.nd_run.proofs.run_calls.equal.Goals as goal

pub returns : goal.returns
returns g c =
    let m = meaning_of c.args.view.now in
    let n = meaning_of c.args.other.now in
    let ours = same_meaning m (meaning_of c.view.result) c.view.ensures.whole.0 c.view.ensures.whole.2 in
    let theirs = same_meaning n (meaning_of c.view-2.result) c.view-2.ensures.whole.0 c.view-2.ensures.whole.2 in
    c.eq.ensures.value ∙ (λ k. equal_meanings g.A.PartialEq.eq (ours k) (theirs k))
