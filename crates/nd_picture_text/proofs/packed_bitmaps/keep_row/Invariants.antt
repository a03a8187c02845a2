use Rattle.std.proofs.Common.{◌≡◌, ◌++◌, length}
use Rattle.nd_picture_text.specs.PackedBitmaps.{row_pixels}
use Rattle.nd_picture_text.proofs.packed_bitmaps.keep_row.Given as goal

-- the pixels so far, and those that are left, are all
abbrev pub invariant-loop-rest : goal.invariant-loop-rest
invariant-loop-rest l = l.samples.items ++ row_pixels l.left l.rest ≡ l.fn.samples.items ++ row_pixels l.fn.width l.fn.row

abbrev pub decreases-loop-rest : goal.decreases-loop-rest
decreases-loop-rest l = length l.rest
