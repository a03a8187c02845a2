use Rattle.std.proofs.Common.{◌≡◌, length}
use Rattle.nd_text.specs.DecimalNumerals.{with_digits}
use Rattle.nd_text.proofs.number_reading.with_tested_digits.Given as goal

-- what is left, read after the number so far, is the whole
abbrev pub invariant-loop-rest : goal.invariant-loop-rest
invariant-loop-rest l = with_digits l.number l.rest ≡ with_digits l.fn.number l.fn.line

abbrev pub decreases-loop-rest : goal.decreases-loop-rest
decreases-loop-rest l = length l.rest
