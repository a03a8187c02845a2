use Rattle.nd_npy_run.proofs.usage_and_argument_errors.decline.Goals as goal

pub returns-then-failed-clause-told : goal.returns-then-failed-clause-told
returns-then-failed-clause-told g c = rw (← c.text.ensures, ← c.as_bytes.ensures.value) c.report_text.ensures.text

pub returns-else-failed-clause-told : goal.returns-else-failed-clause-told
returns-else-failed-clause-told g c = rw (← c.text.ensures, ← c.as_bytes.ensures.value) c.report_text.ensures.text
