use Rattle.std.proofs.Common.{◌≡◌, ◌≤◌, length}
use Rattle.nd_text.specs.LinesAndWords.{words_of}
use Rattle.nd_text.proofs.lines_and_words.skip_blanks.Given as goal

abbrev pub invariant-loop-rest : goal.invariant-loop-rest
invariant-loop-rest l = record {
  words : words_of l.rest ≡ words_of l.fn.line;
  shorter : length l.rest ≤ length l.fn.line;
}

abbrev pub decreases-loop-rest : goal.decreases-loop-rest
decreases-loop-rest l = length l.rest
