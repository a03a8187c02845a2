use Rattle.std.proofs.Common.{length, refl, ◌∙◌, arith}
use Rattle.std.proofs.lemmas.Option.{slice_get_read}
use Rattle.nd_linalg.proofs.MatrixProductLoops.{one_longer, pushed_before, row_pushed}
use Rattle.nd_linalg.proofs.sums_of_products.push_row.Goals as goal

pub loop-j-preserved : goal.loop-j-preserved
loop-j-preserved g c =
    let kept = c.loop-j.invariant in
    let more = c.push_reserved.ensures in
    let were = c.loop-j.cells.items in
    let here = c.loop-j.j in
    let item = slice_get_read c.args.row.now (length c.args.row.now) here c.index-row-j.result refl c.loop-j-test.true c.index-row-j.is in
    let new = c.push_reserved.new.self.items in
    let pushed = c.index-row-j.result in
    let longer = one_longer were new pushed more.items in
    record {
      count = omega (arith, longer, kept.count);
      len = omega (arith, more.len, kept.len);
      room = more.capacity ∙ kept.room;
      before = λ p below. pushed_before were new pushed more.items p (omega (arith, below, kept.count)) ∙ kept.before p below;
      row = row_pushed were new pushed more.items c.args.row.now (length c.args.cells.now.items) here kept.count item kept.row;
    }
