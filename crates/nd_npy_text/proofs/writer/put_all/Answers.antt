use Rattle.std.proofs.Common.{arith}
use Rattle.nd_npy_text.proofs.PiecesInTurn.{pieces_more, pieces_all}
use Rattle.nd_npy_text.proofs.writer.put_all.Goals as goal

pub loop-text-preserved : goal.loop-text-preserved
loop-text-preserved c = pieces_more (λ text. text.now) c.args.texts.now c.loop-text.text-index _ c.args.bytes.now.items c.loop-text.bytes.items c.put.new.bytes.items c.loop-text-test.true c.loop-text.invariant c.in_ok-put.ensures

pub returns : goal.returns
returns c = pieces_all (λ text. text.now) c.args.texts.now c.loop-text.text-index c.args.bytes.now.items c.loop-text.bytes.items (omega (arith, c.loop-text-test.false)) c.loop-text.invariant
