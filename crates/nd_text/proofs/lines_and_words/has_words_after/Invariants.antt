use Rattle.std.proofs.Common.{◌≡◌, ◌+◌, length}
use Rattle.nd_text.specs.LinesAndWords.{words_after}
use Rattle.nd_text.proofs.lines_and_words.has_words_after.Given as goal

-- the words that begin further on, and those found, are all
abbrev pub invariant-loop-rest : goal.invariant-loop-rest
invariant-loop-rest l = words_after l.rest + l.count ≡ l.left + words_after l.bytes

abbrev pub decreases-loop-rest : goal.decreases-loop-rest
decreases-loop-rest l = length l.rest
