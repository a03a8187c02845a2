use Rattle.std.proofs.Common.{◌≡◌, ◌-◌, ◌*◌, ◌≤◌}
use Rattle.nd_array_core.specs.ArrayMeaning.{meaning_of}
use Rattle.nd_picture.specs.PictureChanges.{Picture, Shows, part_total}
use Rattle.nd_picture.proofs.shrink.block_sum.Given as goal

-- the sum so far
abbrev pub invariant-loop-row : goal.invariant-loop-row
invariant-loop-row l = record {
  after : l.top ≤ l.row;
  before : l.row ≤ l.bottom;
  bound : l.sum ≤ 65535 * ((l.row - l.top) * (l.right - l.left));
  sum : (p : Picture) → Shows (meaning_of l.picture) p → l.sum ≡ part_total p l.top l.row l.left l.right l.channel;
}
