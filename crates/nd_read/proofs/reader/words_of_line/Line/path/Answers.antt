use Rattle.std.proofs.Common.{◌≡◌, true, ◌++◌, ◌∷◌, [], map, sym, ◌∙◌}
use Rattle.std.proofs.lemmas.Result.{err_from_is_err_and}
use Rattle.std.proofs.lemmas.List.{map_push}
use Rattle.nd_read.specs.ScriptCalls.{asked_step}
use Rattle.nd_read.specs.LineReaders.{begins_step, step_at, slashed_at, path_at, step_may_lack}
use Rattle.nd_read.proofs.ItemReadingLoop.{goes_on, stops, ends, is_done}
use Rattle.nd_read.proofs.reader.words_of_line.Line.path.Goals.{else-loop-test, then-loop-test+then-not-begins_step}
use Rattle.nd_read.proofs.reader.words_of_line.Line.path.Goals as goal

pub returns-in_err-leg : goal.returns-in_err-leg
returns-in_err-leg c =
    let p = err_from_is_err_and c.from_residual-in_err-leg.result c.from_residual-in_err-leg.ensures.1 in
    rw (p.1, p.2) (stops begins_step (slashed_at step_at) c.in_err-leg.field-0.0 (map asked_step c.loop.steps.items) c.args.most c.loop.counter c.loop.self (path_at c.args.most c.args.self.now) (begins_step c.args.self.now) (step_may_lack c.loop.self) c.loop-test.true (sym c.begins_step-in-loop.ensures ∙ c.if-not-begins_step.false) (λ e. c.loop.invariant.1 (sym c.begins_step-in-loop.ensures ∙ c.if-not-begins_step.false)) c.in_err-leg.ensures c.loop.invariant.0)

pub loop-preserved : goal.loop-preserved
loop-preserved c =
    let step = asked_step c.in_ok-leg.field-0 in
    let e : map asked_step c.push.new.self.items ≡ map asked_step c.loop.steps.items ++ step ∷ [] = rw c.in_ok-push.ensures.items (map_push _ c.loop.steps.items c.in_ok-leg.field-0) in
    let begins : begins_step c.loop.self ≡ true = sym c.begins_step-in-loop.ensures ∙ c.if-not-begins_step.false in (
      rw e (goes_on begins_step (slashed_at step_at) (map asked_step c.loop.steps.items) c.args.most c.loop.counter c.loop.self step c.leg.new.self (path_at c.args.most c.args.self.now) c.loop-test.true begins c.in_ok-leg.ensures c.loop.invariant.0),
      λ on. c.loop.invariant.1 begins,
    )

pub returns : goal.returns
returns c =
    let front = map asked_step c.loop.steps.items in
    let total = path_at c.args.most c.args.self.now in
    elim c.loop-test.branch [
      | else-loop-test w ↦ is_done begins_step (slashed_at step_at) front c.args.most c.loop.counter c.loop.self total w.loop-test.false c.loop.invariant.0
      | then-loop-test+then-not-begins_step w ↦ ends begins_step (slashed_at step_at) front c.args.most c.loop.counter c.loop.self total w.loop-test.true (sym w.begins_step-in-loop.ensures ∙ w.if-not-begins_step.true) c.loop.invariant.0
    ]
