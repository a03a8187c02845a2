use Rattle.nd_text.proofs.PrintingInTurn.{puts_then}
use Rattle.nd_picture_text.proofs.writer.put_header.Goals as goal

pub returns : goal.returns
returns g c =
    let named = rw c.kind_name.ensures at c.put.ensures in
    puts_then named (puts_then c.put_number.ensures (puts_then c.put-2.ensures (puts_then c.put_number-2.ensures (puts_then c.put-3.ensures c.put_maxval.ensures))))
