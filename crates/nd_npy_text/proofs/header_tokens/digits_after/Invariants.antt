use Rattle.std.proofs.Common.{◌≡◌, length}
use Rattle.nd_npy_text.specs.HeaderTokens.{npy_digits_after}
use Rattle.nd_npy_text.proofs.header_tokens.digits_after.Given as goal

-- what is left, read after the number so far, is the whole
abbrev pub invariant-loop-rest : goal.invariant-loop-rest
invariant-loop-rest l = npy_digits_after l.flaw l.number l.rest ≡ npy_digits_after l.flaw l.fn.first l.fn.text

abbrev pub decreases-loop-rest : goal.decreases-loop-rest
decreases-loop-rest l = length l.rest
