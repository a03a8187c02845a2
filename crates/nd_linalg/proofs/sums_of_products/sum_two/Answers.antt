use Rattle.std.proofs.Common.{◌+◌, length, refl, arith}
use Rattle.std.specs.Prelude.{slice_get}
use Rattle.std.proofs.lemmas.Option.{slice_get_read}
use Rattle.nd_linalg.proofs.MatrixProductLoops.{sum_taken_on}
use Rattle.nd_linalg.proofs.sums_of_products.sum_two.Goals as goal

pub loop-k-preserved : goal.loop-k-preserved
loop-k-preserved g c =
    let kept = c.loop-k.invariant in
    let here = c.loop-k.k in
    let cells = c.args.cells.now in
    let list = c.args.list.now in
    let below = c.loop-k-test.true in
    let cell = slice_get_read cells (length cells) (c.args.from + here) c.index-cells-from.result refl (omega (arith, c.requires.first, below)) c.index-cells-from.is in
    let next = slice_get_read cells (length cells) (c.args.next + here) c.index-cells-next.result refl (omega (arith, c.requires.second, below)) c.index-cells-next.is in
    let item = slice_get_read list (length list) here c.index-list-k.result refl below c.index-list-k.is in
    let again = slice_get_read list (length list) here c.index-list-k-in-loop-k.result refl below c.index-list-k-in-loop-k.is in
    let on = sum_taken_on g.A.Arithmetic.plus g.A.Arithmetic.times g.A.Zero.zero in
    record {
      first = on (λ k. slice_get cells (c.args.from + k)) (slice_get list) here c.loop-k.one c.index-cells-from.result c.index-list-k.result c.add_product-one.result c.add_product-one.ensures cell item kept.first;
      second = on (λ k. slice_get cells (c.args.next + k)) (slice_get list) here c.loop-k.two c.index-cells-next.result c.index-list-k-in-loop-k.result c.add_product-two.result c.add_product-two.ensures next again kept.second;
    }
