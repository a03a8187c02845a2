use Rattle.std.proofs.Common.{arith, ◌+◌, ◌*◌, ℕ, Some, length, refl, ◌∙◌}
use Rattle.std.proofs.lemmas.Bool.Decides.{nat_tests}
use Rattle.nd_linalg.proofs.RowsOfCells.{row_within}
use Rattle.std.specs.Prelude.{slice_get}
use Rattle.std.proofs.lemmas.Option.{slice_get_read}
use Rattle.nd_array_core.specs.elements.BroadcastPairs.{option_both}
use Rattle.nd_linalg.proofs.MatrixProductLoops.{added_on}
use Rattle.nd_linalg.proofs.sums_of_products.sum_columns.Goals as goal

pub overflow_mul-k : goal.overflow_mul-k
overflow_mul-k g c = grind (arith, nat_tests, row_within)

pub returns-clause-each : goal.returns-clause-each
returns-clause-each g c = grind (arith, nat_tests, row_within)

pub add_four-requires-clause-cells : goal.add_four-requires-clause-cells
add_four-requires-clause-cells g c = grind (arith, nat_tests, row_within)

pub loop-four-preserved : goal.loop-four-preserved
loop-four-preserved g c = grind (arith, nat_tests, row_within)

pub loop-k-preserved : goal.loop-k-preserved
loop-k-preserved g c =
    let kept = c.loop-k.invariant in
    let more = c.add_row.ensures in
    let plus = g.A.Arithmetic.plus in
    let times = g.A.Arithmetic.times in
    let here = c.loop-k.k in
    let xs = λ (k : ℕ). slice_get c.args.left.now (c.args.from + k) in
    let column = λ (j k : ℕ). slice_get c.args.right.now (k * length c.args.sums.now + j) in
    let number = slice_get_read c.args.left.now (length c.args.left.now) (c.args.from + here) c.index-left-from.result refl (omega (arith, c.requires.row, c.loop-k-test.true)) c.index-left-from.is in
    record {
      count = more.count ∙ kept.count;
      each = λ j below. ◌∙◌ {b = option_both plus (slice_get c.loop-k.sums j) (option_both times (Some c.index-left-from.result) (column j here))} (more.each j (omega (arith, below, kept.count))) (added_on plus times g.A.Zero.zero xs (column j) here (slice_get c.loop-k.sums j) c.index-left-from.result (kept.each j below) number);
    }
