use Rattle.nd_text.proofs.PrintingInTurn.{all_taken, puts_then}
use Rattle.nd_picture.proofs.program.report.Goals as goal

pub returns-clause-text : goal.returns-clause-text
returns-clause-text g c = all_taken c.new-page.ensures (puts_then c.put.ensures (puts_then c.put_fault.ensures c.put-2.ensures)) c.finish.ensures.text
