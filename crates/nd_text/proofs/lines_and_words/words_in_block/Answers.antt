use Rattle.std.proofs.Common.{arith}
use Rattle.nd_text.proofs.LineAndWordSplits.{last_after}
use Rattle.nd_text.proofs.lines_and_words.words_in_block.Goals as goal

pub returns : goal.returns
returns c = omega (arith, last_after c.args.bytes.now c.loop-nth.nth (omega arith))
