use Rattle.std.proofs.Common.{◌≡◌, List, ℕ, None, refl, sym, ap, ◌∙◌, inl, inr}
use Rattle.nd_array_core.specs.ArrayMeaning.{meaning_of}
use Rattle.nd_array_core.specs.reshape.ServingStrides.{regrouped_meaning}
use Rattle.nd_read.specs.ScriptCalls.{Reshaping}
use Rattle.nd_steps.proofs.StepEquations.{same_meaning}
use Rattle.nd_run.proofs.ReplyAndArrayOfOneCall.{carried}
use Rattle.nd_run.proofs.run_calls.reshape.Goals as goal

pub returns-in-Ok-into_shape_clone : goal.returns-in-Ok-into_shape_clone
returns-in-Ok-into_shape_clone g c =
    let order = c.args.order in
    let m = meaning_of c.args.array.now in
    let new = meaning_of c.in-Ok-into_shape_clone.reshaped in
    let out = meaning_of c.taken.result in
    let asked = ap (λ (to : List ℕ). regrouped_meaning order to out) c.in-Ok.ensures.lengths in
    let is : new ≡ regrouped_meaning order c.args.lengths.now out = elim c.in-Ok-into_shape_clone.ensures.kind [
      | inl kept ↦ same_meaning _ new kept.1.0.0 kept.1.0.2 ∙ asked
      | inr copied ↦ same_meaning _ new copied.2.0 copied.2.1 ∙ asked
    ] in
    carried g.A.PartialEq.eq (Reshaping c.args.lengths.now order) m None new (sym c.in-Ok.ensures.refused) refl (is ∙ ap (λ a. regrouped_meaning order c.args.lengths.now (meaning_of a)) c.taken.ensures)
