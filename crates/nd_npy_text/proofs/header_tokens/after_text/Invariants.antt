use Rattle.std.proofs.Common.{◌≡◌, length}
use Rattle.nd_npy_text.specs.HeaderTokens.{after_text}
use Rattle.nd_npy_text.proofs.header_tokens.after_text.Given as goal

-- what is left of the literal, read from the rest, is the whole
abbrev pub invariant-loop-wanted : goal.invariant-loop-wanted
invariant-loop-wanted l = after_text l.flaw l.wanted l.rest ≡ after_text l.flaw l.fn.literal l.fn.text

abbrev pub decreases-loop-wanted : goal.decreases-loop-wanted
decreases-loop-wanted l = length l.wanted
