use Rattle.std.proofs.Common.{◌≡◌, ℕ, List, ◌++◌}
use Rattle.nd_text.specs.BufferedPrinting.{Puts}
use Rattle.nd_picture_text.specs.PackedBitmaps.{row_text}
use Rattle.nd_picture_text.proofs.packed_bitmaps.put_row.Given as goal

-- the bytes that are put so far, and those that are left, are all
abbrev pub invariant-loop-missing : goal.invariant-loop-missing
invariant-loop-missing g l = (text : List ℕ) × Puts g.W.Write.contents l.fn.output l.fn.page l.output l.page text × (text ++ row_text l.missing l.rest ≡ row_text l.fn.size l.fn.row)

abbrev pub decreases-loop-missing : goal.decreases-loop-missing
decreases-loop-missing g l = l.missing
