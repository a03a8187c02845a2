use Rattle.std.proofs.Common.{◌≡◌, ◌≤◌, ◌+◌, drop}
use Rattle.nd_text.specs.LinesAndWords.{words_after}
use Rattle.nd_text.proofs.lines_and_words.words_in_block.Given as goal

-- the words that begin further on, and those found, are all
abbrev pub invariant-loop-nth : goal.invariant-loop-nth
invariant-loop-nth l = record {
  all : l.begun + words_after (drop l.nth l.bytes) ≡ words_after l.bytes;
  few : l.begun ≤ l.nth;
}
