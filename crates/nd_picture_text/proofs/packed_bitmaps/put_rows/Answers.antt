use Rattle.std.proofs.Common.{◌≡◌, ◌∙◌, [], ◌++◌, refl, sym, ap, arith}
use Rattle.nd_text.proofs.PrintingInTurn.{puts_nothing, puts_then}
use Rattle.nd_picture_text.specs.PackedBitmaps.{row_size, row_text, rows_text}
use Rattle.nd_picture_text.proofs.PackedBitmapLoops.{rows_more, all_rows}
use Rattle.nd_picture_text.proofs.packed_bitmaps.put_rows.Goals as goal

pub loop-missing-init : goal.loop-missing-init
loop-missing-init g c = ([], puts_nothing c.args.output.now c.args.page.now, refl)

pub loop-missing-preserved : goal.loop-missing-preserved
loop-missing-preserved g c =
    let so = c.loop-missing.invariant in
    let put = rw c.row_size-size.ensures at c.put_row.ensures in
    let same = rows_more so.0 c.args.width c.loop-missing.missing c.min-count.result c.loop-missing.rest.now c.split_at.result.0.now c.split_at.result.1.now _ c.loop-missing-test.true c.min-count.ensures c.split_at.ensures.front c.split_at.ensures.back so.2 in
    (so.0 ++ row_text (row_size c.args.width) c.split_at.result.0.now, puts_then so.1 put, same)

pub returns : goal.returns
returns g c =
    let so = c.loop-missing.invariant in
    let none : c.loop-missing.missing ≡ 0 = omega arith in
    all_rows so.0 _ (ap (λ n. so.0 ++ rows_text c.args.width n c.loop-missing.rest.now) (sym none) ∙ so.2) so.1
