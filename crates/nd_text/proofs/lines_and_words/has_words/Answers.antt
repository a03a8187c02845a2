use Rattle.std.proofs.Common.{arith}
use Rattle.nd_text.proofs.LineAndWordSplits.{begun_first}
use Rattle.nd_text.proofs.lines_and_words.has_words.Goals as goal

pub returns-in-len1-up : goal.returns-in-len1-up
returns-in-len1-up c =
    let all = begun_first c.args.line.now c.is_blank.result c.from.result (omega arith) c.is_blank.ensures c.from.ensures in
    (λ t. omega (arith, all, c.has_words_after.ensures.0 t), λ enough. c.has_words_after.ensures.1 (omega (arith, all, enough)))
