use Rattle.nd_text.proofs.PrintingInTurn.{puts_then}
use Rattle.nd_picture.proofs.program.put_step_fault.Goals as goal

pub returns : goal.returns
returns g c = rw (← c.as_bytes.ensures.value) (puts_then c.put.ensures (puts_then c.put_number.ensures (puts_then c.put-2.ensures (puts_then c.put_step.ensures (puts_then c.put-3.ensures c.put-4.ensures)))))
