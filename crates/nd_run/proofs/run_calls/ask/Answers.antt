use Rattle.std.proofs.Common.{◌≡◌, ◌∙◌, refl, sym, ap, None, Some, map}
use Rattle.nd_array_core.specs.ArrayMeaning.{meaning_of}
use Rattle.nd_read.specs.ScriptCalls.{asked_step, asking}
use Rattle.nd_run.specs.CallReplies.{SaidRefused}
use Rattle.nd_steps.specs.WritesThroughViewsAndSplits.{meaning_at_end}
use Rattle.nd_steps.specs.StepListResults.{look_refusal}
use Rattle.nd_steps.proofs.StepEquations.{same_meaning, leads_is}
use Rattle.nd_run.proofs.ReplyAndArrayOfOneCall.{ask_refused, asked_is, answered}
use Rattle.nd_run.proofs.run_calls.ask.Goals as goal

pub returns-in-None : goal.returns-in-None
returns-in-None g c =
    let path = map asked_step c.args.path.now in
    let m = meaning_of c.args.array.now in
    let n = meaning_of c.follow_path.new.view in
    let whole = c.view-view.ensures.whole in
    let same : meaning_of c.view-view.result ≡ m = same_meaning m (meaning_of c.view-view.result) whole.0 whole.2 in
    let free : look_refusal path m.shape ≡ None = ap (look_refusal path) (sym whole.0) ∙ sym c.in-None.ensures.refused in
    let end : n ≡ meaning_at_end path m = leads_is path (meaning_of c.view-view.result) n (c.in-None.ensures.along refl) c.nothing_outside.ensures ∙ ap (meaning_at_end path) same in
    answered g.A.PartialEq.eq path (asking g.T.HoldsArray.held c.args.question.now) m n c.reply_to_question.result free end c.reply_to_question.ensures.reply c.reply_to_question.ensures.memory

pub returns-in-Some : goal.returns-in-Some
returns-in-Some g c =
    let path = map asked_step c.args.path.now in
    let m = meaning_of c.args.array.now in
    let question = asking g.T.HoldsArray.held c.args.question.now in
    let refused : look_refusal path m.shape ≡ Some c.in-Some.refused = ap (look_refusal path) (sym c.view-view.ensures.whole.0) ∙ sym c.in-Some.ensures.refused in
    asked_is g.A.PartialEq.eq path question m (SaidRefused c.number.result) (ap SaidRefused c.number.ensures ∙ ask_refused g.A.PartialEq.eq path question m c.in-Some.refused refused)
