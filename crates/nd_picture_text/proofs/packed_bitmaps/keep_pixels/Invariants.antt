use Rattle.std.proofs.Common.{◌≡◌, ◌++◌}
use Rattle.nd_picture_text.specs.PackedBitmaps.{pixels_of}
use Rattle.nd_picture_text.proofs.packed_bitmaps.keep_pixels.Given as goal

-- the pixels so far, and those that are left, are all
abbrev pub invariant-loop-missing : goal.invariant-loop-missing
invariant-loop-missing l = l.samples.items ++ pixels_of l.missing l.bits ≡ l.fn.samples.items ++ pixels_of l.fn.count l.fn.byte

abbrev pub decreases-loop-missing : goal.decreases-loop-missing
decreases-loop-missing l = l.missing
