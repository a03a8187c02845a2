use Rattle.std.specs.Prelude.{codes}
use Rattle.nd_npy_run.proofs.TextsAroundNumbers.{counted_then}
use Rattle.nd_text.proofs.PrintingInTurn.{puts_then}
use Rattle.nd_npy_run.proofs.fault_messages.put_reduction.Goals as goal

pub returns-in-NoAxis : goal.returns-in-NoAxis
returns-in-NoAxis g c = rw c.in-NoAxis.is (counted_then (codes "there is no axis ") _ _ c.put_counted.ensures c.put_count.ensures)

pub returns-in-NoElements : goal.returns-in-NoElements
returns-in-NoElements g c = rw c.in-NoElements.is (puts_then c.put.ensures c.put_count-in-NoElements.ensures)

pub returns-in-NoNumbers : goal.returns-in-NoNumbers
returns-in-NoNumbers g c = rw (c.in-NoNumbers.is, ← c.code.ensures) c.put_between.ensures
