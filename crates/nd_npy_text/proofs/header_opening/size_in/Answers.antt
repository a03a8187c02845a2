use Rattle.std.proofs.Common.{sym}
use Rattle.nd_npy_text.proofs.BytesBehindOthers.{two_read, four_read}
use Rattle.nd_npy_text.proofs.header_opening.size_in.Goals as goal

pub returns-in-len4-up : goal.returns-in-len4-up
returns-in-len4-up c = rw c.if-wide.true (sym (four_read c.args.bytes.now c.in-len4-up.len_at_least))

pub returns-in-len2-up : goal.returns-in-len2-up
returns-in-len2-up c = rw c.if-wide.false (sym (two_read c.args.bytes.now c.in-len2-up.len_at_least))
