use Rattle.std.proofs.Common.{◌≡◌, drop}
use Rattle.nd_text.proofs.DigitsRead.{after}
use Rattle.nd_text.proofs.number_reading.of_digits.Given as goal

-- what is left, read after the number so far, is the whole
abbrev pub invariant-loop-byte : goal.invariant-loop-byte
invariant-loop-byte l = after l.number (drop l.byte-index l.word) ≡ after 0 l.word
