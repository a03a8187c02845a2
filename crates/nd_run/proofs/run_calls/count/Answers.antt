use Rattle.std.proofs.Common.{◌∙◌, ◌<◌, ◌^◌, length, rules, arith}
use Rattle.nd_shape_and_slice.specs.ShapesAndIndexOrders.{indexes_of}
use Rattle.nd_shape_and_slice.proofs.RowMajorIndexList.{length-indexes_of}
use Rattle.nd_array_core.specs.ArrayMeaning.{meaning_of}
use Rattle.nd_array_core.specs.ConcatenationAndSplit.{row_major_elements}
use Rattle.nd_run.proofs.CountedElements.{counted, counted_free, counted_all, filtered_short}
use Rattle.nd_run.proofs.run_calls.count.Goals as goal

pub returns : goal.returns
returns g c =
    let m = meaning_of c.args.view.now in
    let passes = λ (x : g.row.A.Denot). g.A.PartialEq.eq x c.args.element.now in
    let short = filtered_short m.at (indexes_of m.shape) in
    let size = length-indexes_of m.shape in
    let len = c.len-size.ensures in
    let few : length (row_major_elements m) < 2 ^ 64 = omega (arith, short, size, len) in
    c.fold.ensures.settled (counted passes) (λ count x r f' call. (search rules)) (counted_free passes) ∙ counted_all passes (row_major_elements m) few
