use Rattle.std.proofs.Common.{◌≡◌, ◌+◌, length}
use Rattle.nd_picture_text.specs.PackedBitmaps.{packed_byte}
use Rattle.nd_picture_text.proofs.packed_bitmaps.packed_byte.Given as goal

-- the byte so far, and the bits that are left, are the whole byte
abbrev pub invariant-loop-rest : goal.invariant-loop-rest
invariant-loop-rest l = l.byte + packed_byte l.weight l.rest ≡ packed_byte 128 l.fn.samples

abbrev pub decreases-loop-rest : goal.decreases-loop-rest
decreases-loop-rest l = length l.rest
