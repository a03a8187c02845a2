use Rattle.std.proofs.Common.{arith}
use Rattle.nd_picture_text.proofs.HeaderReadFromFront.{front_of_settled, front_at_end}
use Rattle.nd_picture_text.proofs.header_from_stream.read_header.Goals as goal

pub returns-then-is_settled-clause-front : goal.returns-then-is_settled-clause-front
returns-then-is_settled-clause-front g c =
    let front = rw c.deref-then-is_settled.ensures.value at c.header_and_size.ensures in
    let has = rw c.deref.ensures.value at c.is_settled.ensures c.if-is_settled.true in
    front_of_settled g.R.Read.remaining c.fill.new.input c.fill.new.bytes.items c.header_and_size.result front has

pub returns-then-len-size-clause-front : goal.returns-then-len-size-clause-front
returns-then-len-size-clause-front g c =
    let front = rw c.deref-then-len-size.ensures.value at c.header_and_size-then-len-size.ensures in
    front_at_end g.R.Read.remaining c.fill.new.input c.fill.new.bytes.items c.loop-bytes.size c.header_and_size-then-len-size.result front c.in_ok-fill.ensures.filled (omega (arith, c.len.ensures, c.if-len-size.true))
