use Rattle.std.proofs.Common.{◌∙◌, ◌≡◌, ◌+◌, sym, ap, true, not}
use Rattle.std.proofs.lemmas.List.{take_rest}
use Rattle.nd_text.specs.LinesAndWords.{word_goes_on}
use Rattle.nd_text.proofs.LineAndWordSplits.{word_ends, word_is_last}
use Rattle.nd_text.proofs.lines_and_words.split_word.Goals as goal

pub returns-in-Some-clause-words : goal.returns-in-Some-clause-words
returns-in-Some-clause-words c =
    let rest = c.trim_start-line.result.now in
    let starts : word_goes_on rest ≡ true = c.trim_start-line.ensures.front ∙ ap not (sym c.if-is_empty.ensures) in
    sym c.trim_start-line.ensures.words ∙ rw (take_rest rest (c.in-Some.end + 1)) (word_ends rest c.in-Some.end starts (sym c.in-Some.ensures.place))

pub returns-in-None-clause-words : goal.returns-in-None-clause-words
returns-in-None-clause-words c =
    let rest = c.trim_start-line.result.now in
    let starts : word_goes_on rest ≡ true = c.trim_start-line.ensures.front ∙ ap not (sym c.if-is_empty.ensures) in
    sym c.trim_start-line.ensures.words ∙ word_is_last rest starts (sym c.in-None.ensures.place)
