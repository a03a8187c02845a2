use Rattle.nd_text.proofs.PrintingInTurn.{all_taken}
use Rattle.nd_run.proofs.output_and_exit_status.conclude_whole.Goals as goal

pub returns-then-failed-clause-text : goal.returns-then-failed-clause-text
returns-then-failed-clause-text g c = all_taken c.new-page.ensures c.put_whole.ensures c.finish.ensures.text

pub returns-then-failed-clause-flushed : goal.returns-then-failed-clause-flushed
returns-then-failed-clause-flushed g c = λ never. c.finish.ensures.flushed (c.put_whole.ensures.unflushed never)

pub returns-else-failed-clause-text : goal.returns-else-failed-clause-text
returns-else-failed-clause-text g c = all_taken c.new-page.ensures c.put_whole.ensures c.finish.ensures.text

pub returns-else-failed-clause-flushed : goal.returns-else-failed-clause-flushed
returns-else-failed-clause-flushed g c = λ never. c.finish.ensures.flushed (c.put_whole.ensures.unflushed never)
