use Rattle.std.proofs.Common.{Ok, Err, map, subst}
use Rattle.nd_text.specs.LinesAndWords.{words_of}
use Rattle.nd_text.specs.WatchedReadersAndWriters.{watched_inner}
use Rattle.nd_npy_run.specs.ViewSelectAndReshapeSteps.{asked_npy_step}
use Rattle.nd_npy_run.specs.OutputAndStatus.{ComesOfSteps}
use Rattle.nd_npy_run.proofs.OutputOfSteps.{comes_bad, comes_read, comes_turned}
use Rattle.nd_npy_run.proofs.output_or_fault.produce.Goals as goal

pub returns-in-Err-BadStep-clause-made : goal.returns-in-Err-BadStep-clause-made
returns-in-Err-BadStep-clause-made g c = rw c.in-Err-BadStep.field-0-is (comes_bad c.args.wanted _ _ _ _ _ c.in-Err-BadStep.field-0-is c.in-Err-BadStep.ensures)

pub returns-in-Ok-turned-clause-made : goal.returns-in-Ok-turned-clause-made
returns-in-Ok-turned-clause-made g c =
    let words = words_of c.args.line.now in
    let bytes = c.in-Ok-read_input.bytes.items in
    let comes = rw (c.deref.ensures.value, c.deref-2.ensures.value) at c.in-Ok-turned.ensures in
    comes_read c.args.wanted words (Ok c.in-Ok-turned.file.items) (g.R.Read.remaining (watched_inner c.args.input.now)) bytes c.in-Ok-read_input.ensures.bytes
    (comes_turned c.args.wanted (map asked_npy_step c.in-Ok.steps.items) bytes words (Ok c.in-Ok-turned.file.items) c.in-Ok.ensures comes)

pub returns-clause-made : goal.returns-clause-made
returns-clause-made g c =
    let words = words_of c.args.line.now in
    let bytes = c.in-Ok-read_input.bytes.items in
    let wanted = c.args.wanted in
    let fault = c.in-Err.fault in
    let of_steps = subst (λ steps. ComesOfSteps wanted (map asked_npy_step steps) c.deref-2.result.now (Err fault)) c.deref.ensures.value c.in-Err.ensures in
    let comes = subst (λ bytes. ComesOfSteps wanted (map asked_npy_step c.in-Ok.steps.items) bytes (Err fault)) c.deref-2.ensures.value of_steps in
    comes_read c.args.wanted words (Err c.in-Err.fault) (g.R.Read.remaining (watched_inner c.args.input.now)) bytes c.in-Ok-read_input.ensures.bytes
    (comes_turned c.args.wanted (map asked_npy_step c.in-Ok.steps.items) bytes words (Err c.in-Err.fault) c.in-Ok.ensures comes)
