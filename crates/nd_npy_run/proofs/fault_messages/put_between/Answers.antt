use Rattle.nd_text.proofs.PrintingInTurn.{puts_then}
use Rattle.nd_npy_run.proofs.fault_messages.put_between.Goals as goal

pub returns : goal.returns
returns g c = puts_then c.put.ensures (puts_then c.put-2.ensures c.put-3.ensures)
