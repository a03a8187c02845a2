use Rattle.nd_text.proofs.PrintingInTurn.{puts_then}
use Rattle.nd_run.proofs.printer.put_element.Goals as goal

pub returns-in-Some : goal.returns-in-Some
returns-in-Some g c = rw c.in-Some.is (puts_then c.put-in-Some.ensures c.put_number.ensures)
