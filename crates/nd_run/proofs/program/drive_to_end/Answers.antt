use Rattle.std.proofs.Common.{◌≡◌, map, ap, subst}
use Rattle.nd_array_core.specs.ArrayMeaning.{Meaning, meaning_of, shape_of}
use Rattle.nd_run.specs.CallReplies.{said_reply}
use Rattle.nd_run.specs.OutcomesOfCalls.{replies_before}
use Rattle.nd_run.specs.ScriptEndings.{Finished, OutOfMemory, ending_text, status_of}
use Rattle.nd_array_core.specs.ConcatenationAndSplit.{row_major_elements}
use Rattle.nd_run.specs.ScriptMeaning.{Runs, Stops}
use Rattle.nd_read.specs.ScriptReading.{asked_script}
use Rattle.nd_text.specs.BufferedPrinting.{TakesText}
use Rattle.nd_text.specs.WatchedReadersAndWriters.{watched_failed}
use Rattle.nd_run.proofs.WholeProgram.{ran_is_driven}
use Rattle.nd_run.proofs.program.drive_to_end.Goals as goal

pub returns-in-Ok-run_held-clause-driven : goal.returns-in-Ok-run_held-clause-driven
returns-in-Ok-run_held-clause-driven g c =
    let array = c.in-Ok-run_held.array in
    let replies = map said_reply c.in-Ok-run_held.replies.items in
    let end = Finished replies (shape_of array) (row_major_elements (meaning_of array)) in
    let did = c.in-Ok-run_held.ensures in
    let runs : Runs (asked_script c.in-Ok.field-0) replies (shape_of array) (row_major_elements (meaning_of array)) = rw (c.in-Ok.field-0-is, ← c.deref.ensures.value) (did.replies, ap (λ (m : Meaning _). m.shape) did.array, ap row_major_elements did.array) in
    ran_is_driven asked_script g.R.Read.remaining g.W.Write.contents c.args.input.now c.load.new.input c.load.result c.args.output.now c.conclude_whole.new.output c.conclude_whole.result c.load.ensures.script c.load.ensures.failed
    c.in-Ok.field-0 end c.in-Ok.is runs (rw (← c.deref-in-Ok-run_held.ensures.value) c.conclude_whole.ensures.text) c.conclude_whole.ensures.status

pub returns-in-Ok-clause-driven : goal.returns-in-Ok-clause-driven
returns-in-Ok-clause-driven g c =
    let fault = c.in-Err-run_held.fault in
    let stops : Stops (asked_script c.in-Ok.field-0) (replies_before fault) = rw (c.in-Ok.field-0-is, ← c.deref.ensures.value) c.in-Err-run_held.ensures.memory in
    ran_is_driven asked_script g.R.Read.remaining g.W.Write.contents c.args.input.now c.load.new.input c.load.result c.args.output.now c.conclude.new.output c.conclude.result c.load.ensures.script c.load.ensures.failed
    c.in-Ok.field-0 (OutOfMemory (replies_before fault)) c.in-Ok.is stops (subst (λ e. TakesText g.W.Write.contents c.args.output.now c.conclude.new.output (ending_text e)) c.stopped.ensures c.conclude.ensures.text) (subst (λ e. c.conclude.result ≡ status_of (watched_failed c.conclude.new.output) e) c.stopped.ensures c.conclude.ensures.status)
