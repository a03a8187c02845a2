use Rattle.std.proofs.Common.{arith}
use Rattle.nd_picture_text.proofs.PlainRows.{rows_more}
use Rattle.nd_picture_text.proofs.plain_rows_from_stream.whole_rows.Goals as goal

pub loop-count-preserved : goal.loop-count-preserved
loop-count-preserved c = record {
  rows = rows_more c.args.header c.args.row c.args.bytes.now c.args.ended c.loop-count.count _ _ _ _ c.loop-count.invariant.rows c.in-Ok.ensures;
  few = omega (arith, c.loop-count-test.true);
}
