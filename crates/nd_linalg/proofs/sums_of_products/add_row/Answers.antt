use Rattle.std.proofs.Common.{arith, ◌+◌, ◌<◌, ℕ, length, Some, refl, sym, ◌∙◌}
use Rattle.std.proofs.lemmas.Bool.Decides.{nat_tests}
use Rattle.nd_linalg.proofs.RowsOfCells.{row_within}
use Rattle.std.specs.Prelude.{slice_get}
use Rattle.std.proofs.lemmas.Option.{slice_get_read}
use Rattle.std.proofs.lemmas.List.{length-set}
use Rattle.nd_array_core.specs.elements.BroadcastPairs.{option_both}
use Rattle.nd_linalg.proofs.MatrixProductLoops.{one_put, product_added, rest_left}
use Rattle.nd_linalg.proofs.sums_of_products.add_row.Goals as goal

pub offset_bounds-sums-j-in-loop-j : goal.offset_bounds-sums-j-in-loop-j
offset_bounds-sums-j-in-loop-j g c = grind (arith, nat_tests, row_within)

pub loop-j-preserved : goal.loop-j-preserved
loop-j-preserved g c =
    let kept = c.loop-j.invariant in
    let here = c.loop-j.j in
    let within : here < length c.loop-j.sums = omega (arith, c.loop-j-test.true, kept.count) in
    let plus = g.A.Arithmetic.plus in
    let times = g.A.Arithmetic.times in
    let sums = slice_get c.args.sums.now in
    let cells = λ (j : ℕ). slice_get c.args.cells.now (c.args.from + j) in
    let sum = sym (kept.left here (omega arith)) ∙ slice_get_read c.loop-j.sums (length c.loop-j.sums) here c.index-sums-j.result refl within c.index-sums-j.is in
    let cell = slice_get_read c.args.cells.now (length c.args.cells.now) (c.args.from + here) c.index-cells-from.result refl (omega (arith, c.requires, c.loop-j-test.true)) c.index-cells-from.is in
    let taken = product_added plus times c.index-sums-j.result c.args.x c.index-cells-from.result c.add_product.result (sums here) (Some c.args.x) (cells here) c.add_product.ensures sum refl cell in
    record {
      count = length-set c.loop-j.sums here c.add_product.result ∙ kept.count;
      done = one_put c.loop-j.sums here c.add_product.result (λ j. option_both plus (sums j) (option_both times (Some c.args.x) (cells j))) within taken kept.done;
      left = rest_left c.loop-j.sums here c.add_product.result sums kept.left;
    }
