use Rattle.nd_text.proofs.LineAndWordSplits.{found_first}
use Rattle.nd_text.proofs.lines_and_words.line_end.Goals as goal

pub returns : goal.returns
returns c = found_first c.args.text.now c.memchr.result c.memchr.ensures
