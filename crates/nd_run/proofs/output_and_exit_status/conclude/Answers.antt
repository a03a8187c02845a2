use Rattle.nd_text.proofs.PrintingInTurn.{all_taken}
use Rattle.nd_run.proofs.output_and_exit_status.conclude.Goals as goal

pub returns-clause-text : goal.returns-clause-text
returns-clause-text g c = all_taken c.new-page.ensures c.put_end.ensures c.finish.ensures.text

pub returns-clause-flushed : goal.returns-clause-flushed
returns-clause-flushed g c = λ never. c.finish.ensures.flushed (c.put_end.ensures.unflushed never)
