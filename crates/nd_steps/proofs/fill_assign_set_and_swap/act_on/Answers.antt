use Rattle.std.proofs.Common.{◌∙◌, sym}
use Rattle.nd_array_core.specs.ArrayMeaning.{meaning_of}
use Rattle.nd_read.specs.ScriptCalls.{acting}
use Rattle.nd_steps.proofs.WriteLaws.{acts_refused}
use Rattle.nd_steps.proofs.WritePaths.{is_none}
use Rattle.nd_steps.proofs.fill_assign_set_and_swap.act_on.Goals as goal

pub returns-then-is_some-clause-done : goal.returns-then-is_some-clause-done
returns-then-is_some-clause-done g c = acts_refused (acting g.T.HoldsArray.held c.args.act.now) (meaning_of c.args.array.now) c.act_refusal-refused.result (sym c.is_some.ensures ∙ c.if-is_some.true) c.act_refusal-refused.ensures

pub returns-in-Ok-clause-done : goal.returns-in-Ok-clause-done
returns-in-Ok-clause-done g c =
    let free = is_none c.act_refusal-refused.result (sym c.is_some.ensures ∙ c.if-is_some.false) in
    (sym free ∙ c.act_refusal-refused.ensures, c.in-Ok.ensures.elements)

pub returns-in-Err-clause-done : goal.returns-in-Err-clause-done
returns-in-Err-clause-done g c =
    let free = is_none c.act_refusal-refused.result (sym c.is_some.ensures ∙ c.if-is_some.false) in
    (sym c.act_refusal-refused.ensures ∙ free, c.in-Err.ensures.memory)
