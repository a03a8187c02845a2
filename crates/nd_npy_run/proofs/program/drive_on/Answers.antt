use Rattle.std.proofs.Common.{◌∙◌, Ok, Err, refl, sym}
use Rattle.nd_text.proofs.PrintingInTurn.{writes_nothing}
use Rattle.nd_npy_run.proofs.ErrorLinesFlushed.{read_fault}
use Rattle.nd_npy_run.proofs.program.drive_on.Goals as goal

pub returns-in-Ok-clause-driven : goal.returns-in-Ok-clause-driven
returns-in-Ok-clause-driven g c = (Ok c.in-Ok.file.items, c.in-Ok.ensures.made, rw (← c.deref.ensures.value) c.show.ensures.text, c.report_write.ensures.told, refl, c.in-Ok.ensures.reads, (c.show.ensures.flushed, c.report_write.ensures.flushed))

pub returns-in-Err-clause-driven : goal.returns-in-Err-clause-driven
returns-in-Err-clause-driven g c = (Err c.in-Err.fault, c.in-Err.ensures.made, (writes_nothing c.args.output.now).takes, c.report.ensures.text, c.fault_status.ensures, c.in-Err.ensures.reads, (c.report.ensures.flushed, refl))

pub returns-in-Err-clause-read : goal.returns-in-Err-clause-read
returns-in-Err-clause-read g c = λ is.
    read_fault c.args.input.now c.produce.new.input c.produce.result c.in-Err.fault c.in-Err.is (sym c.fault_status.ensures ∙ is) c.produce.ensures.reads
