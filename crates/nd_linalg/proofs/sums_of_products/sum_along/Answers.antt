use Rattle.std.proofs.Common.{◌+◌, length, refl, arith}
use Rattle.std.specs.Prelude.{slice_get}
use Rattle.std.proofs.lemmas.Option.{slice_get_read}
use Rattle.nd_linalg.proofs.MatrixProductLoops.{sum_taken_on}
use Rattle.nd_linalg.proofs.sums_of_products.sum_along.Goals as goal

pub loop-k-preserved : goal.loop-k-preserved
loop-k-preserved g c =
    let here = c.loop-k.k in
    let cells = c.args.cells.now in
    let list = c.args.list.now in
    let cell = slice_get_read cells (length cells) (c.args.from + here) c.index-cells-from.result refl (omega (arith, c.requires, c.loop-k-test.true)) c.index-cells-from.is in
    let item = slice_get_read list (length list) here c.index-list-k.result refl c.loop-k-test.true c.index-list-k.is in
    sum_taken_on g.A.Arithmetic.plus g.A.Arithmetic.times g.A.Zero.zero (λ k. slice_get cells (c.args.from + k)) (slice_get list) here c.loop-k.sum c.index-cells-from.result c.index-list-k.result c.add_product-sum.result c.add_product-sum.ensures cell item c.loop-k.invariant
