use Rattle.std.proofs.Common.{◌≡◌, ℕ, Bool, List, Option, None, sym, ap, ◌∙◌, rules}
use Rattle.nd_shape_and_slice.specs.declared.shape_builder.Order.{Order}
use Rattle.nd_array_core.specs.ArrayMeaning.{Meaning, meaning_of}
use Rattle.nd_array_core.specs.ConcatenationAndSplit.{row_major_elements}
use Rattle.nd_array_core.specs.reshape.ServingStrides.{regrouped_meaning}
use Rattle.nd_steps.specs.declared.refusal_causes.Cause.{Cause}
use Rattle.nd_read.specs.ScriptCalls.{AskReshaped}
use Rattle.nd_run.specs.CallReplies.{SaidElements}
use Rattle.nd_steps.specs.StepTestsAndShapes.{first_failed, unless}
use Rattle.nd_run.specs.OutcomesOfCalls.{reshape_tests, question_reply, reply_or_refusal, given_by}
use Rattle.nd_run.proofs.run_calls.to_shape.Goals as goal

module _ {A : Type 0} (eq : A → A → Bool) (to : List ℕ) (order : Order) (m : Meaning A) where
  -- the reply where nothing is against it
  told : (lengths : List ℕ) (items : List A) → first_failed (reshape_tests to m.shape) ≡ None → lengths ≡ to → items ≡ row_major_elements (regrouped_meaning order to m) → SaidElements lengths items ≡ reply_or_refusal eq (AskReshaped to order) m
  told lengths items free asked is =
      ap (λ (ls : List ℕ). SaidElements ls items) asked ∙ (ap (λ (xs : List A). SaidElements to xs) is ∙ ap (λ (r : Option Cause). (given_by (unless r (question_reply eq (AskReshaped to order) m, m)) m).0) (sym free))

pub returns-in_ok-elements-in-Ok-to_shape-clause-reply : goal.returns-in_ok-elements-in-Ok-to_shape-clause-reply
returns-in_ok-elements-in-Ok-to_shape-clause-reply g c =
    let order = c.args.order in
    let m = meaning_of c.args.view.now in
    let asked = ap (λ (to : List ℕ). regrouped_meaning order to m) c.in-Ok.ensures.lengths in
    let is : meaning_of c.view.result ≡ regrouped_meaning order c.args.lengths.now m = c.view.ensures.shown ∙ (c.in-Ok-to_shape.ensures.shown ∙ asked) in
    let lengths : c.in_ok-shape.shape.items ≡ c.args.lengths.now = (search rules) in
    told g.A.PartialEq.eq c.args.lengths.now order m c.in_ok-shape.shape.items c.in_ok-elements-in-Ok-to_shape.field-0.items c.in-Ok.ensures.refused lengths (c.in_ok-elements-in-Ok-to_shape.ensures ∙ ap row_major_elements is)
