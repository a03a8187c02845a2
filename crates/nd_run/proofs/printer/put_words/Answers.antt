use Rattle.nd_text.proofs.PrintingInTurn.{puts_then}
use Rattle.nd_run.proofs.printer.put_words.Goals as goal

pub returns-in-Refused : goal.returns-in-Refused
returns-in-Refused g c = rw c.in-Refused.is (puts_then c.put-in-Refused.ensures c.put_number.ensures)

pub returns-in-Shape : goal.returns-in-Shape
returns-in-Shape g c = rw (c.in-Shape.is, ← c.deref.ensures.value) (puts_then c.put-in-Shape.ensures c.put_list.ensures)

pub returns-in-Elements : goal.returns-in-Elements
returns-in-Elements g c = rw (c.in-Elements.is, ← c.deref-in-Elements.ensures.value, ← c.deref-in-Elements-2.ensures.value) (puts_then c.put-in-Elements.ensures (puts_then c.put_list-in-Elements.ensures c.put_numbers.ensures))

pub returns-in-Number : goal.returns-in-Number
returns-in-Number g c = rw c.in-Number.is (puts_then c.put-in-Number.ensures c.put_number-in-Number.ensures)
