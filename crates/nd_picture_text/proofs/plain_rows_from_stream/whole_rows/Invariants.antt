use Rattle.std.proofs.Common.{◌≤◌, ◌-◌}
use Rattle.nd_picture_text.proofs.PlainRows.{RowsSoFar}
use Rattle.nd_picture_text.proofs.plain_rows_from_stream.whole_rows.Given as goal

-- some rows were read
abbrev pub invariant-loop-count : goal.invariant-loop-count
invariant-loop-count l = record {
  rows : RowsSoFar l.header l.row l.bytes l.ended l.count l.samples.items l.rest;
  few : l.count ≤ l.missing;
}

abbrev pub decreases-loop-count : goal.decreases-loop-count
decreases-loop-count l = l.missing - l.count
