use Rattle.std.proofs.Common.{inl, subst, sym}
use Rattle.nd_text.specs.LinesAndWords.{words_of}
use Rattle.nd_text.specs.WatchedReadersAndWriters.{watched_inner}
use Rattle.nd_picture_text.specs.StepGrammar.{AreSteps}
use Rattle.nd_picture.specs.declared.read_change_and_write.Fault.TheVariants.{Memory}
use Rattle.nd_picture.proofs.OutcomeOfFaultyInput.{no_steps_written, results_of_words, reads_made}
use Rattle.nd_picture.proofs.read_change_and_write.write_outcome.Goals as goal

pub returns-in-Err-Memory-clause-fault : goal.returns-in-Err-Memory-clause-fault
returns-in-Err-Memory-clause-fault g c =
    let lacks = rw c.in-Err-Memory.field-0-is at c.in-Err-Memory.ensures in
    no_steps_written g.W.Write.contents c.args.output.now (words_of c.args.line.now) (g.R.Read.remaining (watched_inner c.args.input.now)) Memory (λ bytes. inl lacks)

pub returns-clause-fault : goal.returns-clause-fault
returns-clause-fault g c =
    let are = subst (λ l. AreSteps l (words_of c.args.line.now)) (sym c.deref.ensures.value) c.in-Ok.ensures in
    results_of_words c.deref.result.now (words_of c.args.line.now) are g.W.Write.contents c.args.output.now c.write_changed.new.output (g.R.Read.remaining (watched_inner c.args.input.now)) c.write_changed.result c.write_changed.ensures.fault

pub returns-clause-reads : goal.returns-clause-reads
returns-clause-reads g c = reads_made c.args.input.now c.write_changed.new.input c.write_changed.result c.write_changed.ensures.failed c.write_changed.ensures.steps
