use Rattle.std.proofs.Common.{map, subst, arith}
use Rattle.std.proofs.lemmas.List.{length-map}
use Rattle.nd_text.specs.LinesAndWords.{words_of}
use Rattle.nd_npy_run.specs.ViewSelectAndReshapeSteps.{asked_npy_step}
use Rattle.nd_npy_run.specs.StepListWords.{HasStepsBefore, BeginWithNoStep, FailsNpyStep}
use Rattle.nd_npy_run.proofs.StepLists.{more_before, fewer_words}
use Rattle.nd_npy_run.proofs.steps.step_words.read_steps.Goals as goal

pub loop-word-preserved : goal.loop-word-preserved
loop-word-preserved c =
    rw c.in-Ok-push.ensures.items (more_before c.loop-word.steps.items (words_of c.args.line.now) (words_of c.loop-word.rest.now) (words_of c.in-Ok.after.now) c.in-Ok.step c.loop-word.invariant c.in-Ok.ensures)

pub loop-word-smaller : goal.loop-word-smaller
loop-word-smaller c = fewer_words (words_of c.loop-word.rest.now) (words_of c.in-Ok.after.now) (asked_npy_step c.in-Ok.step) c.in-Ok.ensures

pub returns-in-Err-Bad : goal.returns-in-Err-Bad
returns-in-Err-Bad c =
    let rest = words_of c.loop-word.rest.now in
    let none : BeginWithNoStep rest = subst (FailsNpyStep rest) c.in-Err-Bad.field-0-is c.in-Err-Bad.ensures in (
      map asked_npy_step c.loop-word.steps.items,
      words_of c.in-Some.field-0-1.now,
      subst (HasStepsBefore (words_of c.args.line.now) (map asked_npy_step c.loop-word.steps.items)) c.in-Some.ensures.words c.loop-word.invariant,
      subst BeginWithNoStep c.in-Some.ensures.words none,
      omega (arith, c.len.ensures, c.loop-word.steps.ok.1, length-map c.loop-word.steps.items asked_npy_step),
    )
