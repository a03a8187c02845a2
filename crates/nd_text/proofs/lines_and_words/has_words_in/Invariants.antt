use Rattle.std.proofs.Common.{◌≡◌, ◌+◌, drop}
use Rattle.nd_text.specs.LinesAndWords.{words_begun}
use Rattle.nd_text.proofs.lines_and_words.has_words_in.Given as goal

-- the words that begin further on, and those found, are all
abbrev pub invariant-loop-byte : goal.invariant-loop-byte
invariant-loop-byte l = words_begun l.after_blank (drop l.byte-index l.bytes) + l.count ≡ l.left + words_begun l.fn.after_blank l.bytes
