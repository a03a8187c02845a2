use Rattle.std.proofs.Common.{◌≡◌, ◌-◌, ◌*◌, ◌≤◌}
use Rattle.nd_array_core.specs.ArrayMeaning.{meaning_of}
use Rattle.nd_picture.specs.PictureChanges.{Picture, Shows, row_total}
use Rattle.nd_picture.proofs.shrink.row_sum.Given as goal

-- the sum so far
abbrev pub invariant-loop-column : goal.invariant-loop-column
invariant-loop-column l = record {
  after : l.left ≤ l.column;
  before : l.column ≤ l.right;
  bound : l.sum ≤ 65535 * (l.column - l.left);
  sum : (p : Picture) → Shows (meaning_of l.picture) p → l.sum ≡ row_total p l.row l.left l.column l.channel;
}
