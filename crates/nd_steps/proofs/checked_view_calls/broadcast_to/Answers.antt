use Rattle.std.proofs.Common.{◌≡◌, ◌∙◌, ap, sym, List, ℕ, true, false, None, arith}
use Rattle.nd_array_core.specs.ArrayMeaning.{meaning_of, shape_of, element_at, inside}
use Rattle.nd_shape_and_slice.specs.Broadcast.{broadcasts, broadcast_index}
use Rattle.nd_read.specs.ScriptCalls.{BroadcastTo}
use Rattle.nd_steps.specs.StepTestsAndShapes.{refusal}
use Rattle.nd_steps.proofs.StepEquations.{taken_ok}
use Rattle.nd_steps.proofs.StepChecks.{broadcast_allowed}
use Rattle.nd_steps.proofs.checked_view_calls.broadcast_to.Goals as goal

pub returns-in-Some : goal.returns-in-Some
returns-in-Some g c =
    let old = c.args.view.now in
    let to = c.args.lengths.now in
    let shape : shape_of c.in-Some.wide ≡ to = c.in-Some.ensures.part.0 ∙ c.new.ensures in
    let elements : (i : List ℕ) → element_at c.in-Some.wide i ≡ inside (shape_of c.in-Some.wide) i (element_at old (broadcast_index (shape_of old) to i)) =
    λ i. c.in-Some.ensures.part.2 i ∙ ap (λ ls. inside ls i (element_at old (broadcast_index (shape_of old) ls i))) c.new.ensures ∙ ap (λ ls. inside ls i (element_at old (broadcast_index (shape_of old) to i))) (sym shape) in
    let allowed : refusal (BroadcastTo to) (shape_of old) ≡ None = broadcast_allowed to (shape_of old) (omega arith) (λ no. (let clash : true ≡ false = c.in-Some.ensures.none.1 (ap (broadcasts (shape_of old)) c.new.ensures ∙ no) in absurd cc)) in
    taken_ok (BroadcastTo to) (meaning_of old) (meaning_of c.in-Some.wide) allowed shape elements
