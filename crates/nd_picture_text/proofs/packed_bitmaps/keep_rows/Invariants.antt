use Rattle.std.proofs.Common.{◌≡◌, ◌++◌, ◌*◌, length}
use Rattle.nd_picture_text.specs.PackedBitmaps.{row_size, rows_pixels}
use Rattle.nd_picture_text.proofs.packed_bitmaps.keep_rows.Given as goal

-- the pixels so far, and those of the rows that are left, are all
abbrev pub invariant-loop-missing : goal.invariant-loop-missing
invariant-loop-missing l = record {
  read : l.samples.items ++ rows_pixels l.width l.missing l.rest ≡ rows_pixels l.width l.fn.height l.fn.raster;
  long : length l.rest ≡ l.missing * row_size l.width;
}

abbrev pub decreases-loop-missing : goal.decreases-loop-missing
decreases-loop-missing l = l.missing
