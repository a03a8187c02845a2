use Rattle.nd_text.proofs.PrintingInTurn.{all_taken}
use Rattle.nd_npy_run.proofs.usage_and_argument_errors.show_usage.Goals as goal

pub returns-clause-text : goal.returns-clause-text
returns-clause-text g c = all_taken c.new-page.ensures c.put.ensures c.finish.ensures.text
