use Rattle.std.proofs.Common.{◌∙◌, refl, sym}
use Rattle.nd_text.proofs.PrintingInTurn.{writes_nothing}
use Rattle.nd_npy_run.proofs.program.report_write.Goals as goal

pub returns-then-failed-clause-told : goal.returns-then-failed-clause-told
returns-then-failed-clause-told g c = rw (sym c.failed.ensures ∙ c.if-failed.true) c.report_text.ensures.text

pub returns-then-failed-clause-flushed : goal.returns-then-failed-clause-flushed
returns-then-failed-clause-flushed g c = rw (sym c.failed.ensures ∙ c.if-failed.true) c.report_text.ensures.flushed

pub returns-else-failed-clause-told : goal.returns-else-failed-clause-told
returns-else-failed-clause-told g c = rw (sym c.failed.ensures ∙ c.if-failed.false) (writes_nothing c.args.errors.now).takes

pub returns-else-failed-clause-flushed : goal.returns-else-failed-clause-flushed
returns-else-failed-clause-flushed g c = rw (sym c.failed.ensures ∙ c.if-failed.false) refl
