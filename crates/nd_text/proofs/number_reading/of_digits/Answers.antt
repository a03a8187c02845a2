use Rattle.std.proofs.Common.{sym, ◌∙◌}
use Rattle.nd_text.proofs.DigitsRead.{nat_none, nat_stuck, nat_read}
use Rattle.nd_text.proofs.number_reading.of_digits.Goals as goal

pub returns-then-is_empty : goal.returns-then-is_empty
returns-then-is_empty c = sym (nat_none c.args.word.now (sym c.if-is_empty.ensures))

pub returns-in_err-number : goal.returns-in_err-number
returns-in_err-number c = c.from_residual.ensures ∙ sym (nat_stuck c.args.word.now c.loop-byte.number c.loop-byte.byte-index (sym c.if-is_empty.ensures) c.loop-byte-test.true (sym c.in_err-number.ensures) c.loop-byte.invariant)

pub returns : goal.returns
returns c = sym (nat_read c.args.word.now c.loop-byte.number c.loop-byte.byte-index (sym c.if-is_empty.ensures) c.loop-byte-test.false c.loop-byte.invariant)
