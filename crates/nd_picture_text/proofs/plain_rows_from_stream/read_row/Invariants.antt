use Rattle.nd_picture_text.proofs.PlainRows.{RowSoFar}
use Rattle.nd_picture_text.proofs.plain_rows_from_stream.read_row.Given as goal

-- some of the row's samples were put
abbrev pub invariant-loop-missing : goal.invariant-loop-missing
invariant-loop-missing l = record {
  read : RowSoFar l.header l.fn.count l.fn.bytes l.fn.samples.items l.samples.items l.missing l.rest;
}

abbrev pub decreases-loop-missing : goal.decreases-loop-missing
decreases-loop-missing l = l.missing
