use Rattle.nd_text.proofs.PrintingInTurn.{puts_then}
use Rattle.nd_text.proofs.buffered_printing.put_list.Goals as goal

pub returns : goal.returns
returns g c = puts_then c.put_number.ensures c.put_numbers.ensures
