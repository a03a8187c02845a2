use Rattle.std.proofs.Common.{◌∙◌, sym}
use Rattle.nd_array_core.specs.ArrayMeaning.{meaning_of, shape_of}
use Rattle.nd_read.specs.ScriptCalls.{acting}
use Rattle.nd_steps.specs.WritesThroughViewsAndSplits.{act_tests}
use Rattle.nd_steps.proofs.StepEquations.{tests_pass, tests_stop}
use Rattle.nd_steps.proofs.WriteLaws.{both_refused}
use Rattle.nd_steps.proofs.WritePaths.{is_none}
use Rattle.nd_steps.proofs.fill_assign_set_and_swap.act_on_both.Goals as goal

pub returns-then-is_some-clause-done : goal.returns-then-is_some-clause-done
returns-then-is_some-clause-done g c =
    let held = g.T.HoldsArray.held in
    let first = acting held c.args.first.now in
    let second = acting held c.args.second.now in
    let some = sym c.is_some.ensures ∙ c.if-is_some.true in
    both_refused first second (meaning_of c.args.lower.now) (meaning_of c.args.upper.now) c.act_refusal-refused.result some
    (tests_stop (act_tests first (shape_of c.args.lower.now)) (act_tests second (shape_of c.args.upper.now)) c.act_refusal-refused.result some c.act_refusal-refused.ensures)

pub returns-then-is_some-2-clause-done : goal.returns-then-is_some-2-clause-done
returns-then-is_some-2-clause-done g c =
    let held = g.T.HoldsArray.held in
    let first = acting held c.args.first.now in
    let second = acting held c.args.second.now in
    let none = is_none c.act_refusal-refused.result (sym c.is_some.ensures ∙ c.if-is_some.false) in
    both_refused first second (meaning_of c.args.lower.now) (meaning_of c.args.upper.now) c.act_refusal-refused-2.result (sym c.is_some-2.ensures ∙ c.if-is_some-2.true)
    (c.act_refusal-refused-2.ensures ∙ sym (tests_pass (act_tests first (shape_of c.args.lower.now)) (act_tests second (shape_of c.args.upper.now)) (sym c.act_refusal-refused.ensures ∙ none)))
