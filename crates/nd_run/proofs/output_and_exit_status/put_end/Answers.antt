use Rattle.nd_text.proofs.PrintingInTurn.{puts_then}
use Rattle.nd_run.proofs.output_and_exit_status.put_end.Goals as goal

pub returns-in-BadLine : goal.returns-in-BadLine
returns-in-BadLine g c = rw c.in-BadLine.is (puts_then c.put.ensures (puts_then c.put_number.ensures c.put-in-BadLine.ensures))

pub returns-in-Memory : goal.returns-in-Memory
returns-in-Memory g c = rw (c.in-Memory.is, ← c.deref.ensures.value) (puts_then c.put_replies.ensures c.put-in-Memory.ensures)

pub returns-in-ReadFailed : goal.returns-in-ReadFailed
returns-in-ReadFailed g c = rw c.in-ReadFailed.is c.put-in-ReadFailed.ensures
