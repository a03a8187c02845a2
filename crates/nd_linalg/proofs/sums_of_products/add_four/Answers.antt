use Rattle.std.proofs.Common.{arith, ◌+◌, ◌*◌, ◌<◌, ◌≡◌, ℕ, length, refl, sym, ap, ◌∙◌}
use Rattle.std.proofs.lemmas.Bool.Decides.{nat_tests}
use Rattle.nd_linalg.proofs.RowsOfCells.{row_within}
use Rattle.std.specs.Prelude.{slice_get}
use Rattle.std.proofs.lemmas.Option.{slice_get_read}
use Rattle.std.proofs.lemmas.List.{length-set}
use Rattle.nd_linalg.specs.DotAndMatrixProducts.{column_sum}
use Rattle.nd_linalg.proofs.MatrixProductLoops.{first_of_column, first_of_row, fourth_of_column, fourth_of_row, one_put, rest_left, second_of_column, second_of_row, sum_taken_on, third_of_column, third_of_row}
use Rattle.nd_linalg.proofs.sums_of_products.add_four.Goals as goal

pub offset_bounds-sums-j-in-loop-j : goal.offset_bounds-sums-j-in-loop-j
offset_bounds-sums-j-in-loop-j g c = grind (arith, nat_tests, row_within)

pub loop-j-init : goal.loop-j-init
loop-j-init g c = grind (arith, nat_tests, row_within)

pub bounds-sums-j-in-loop-j : goal.bounds-sums-j-in-loop-j
bounds-sums-j-in-loop-j g c = grind (arith, nat_tests, row_within)

pub loop-j-preserved : goal.loop-j-preserved
loop-j-preserved g c =
    let kept = c.loop-j.invariant in
    let here = c.loop-j.j in
    let below = c.loop-j-test.true in
    let left = c.args.left.now in
    let right = c.args.right.now in
    let columns = length c.args.sums.now in
    let from = c.args.from in
    let done = c.args.done in
    let within : here < length c.loop-j.sums = omega (arith, below, kept.count) in
    let plus = g.A.Arithmetic.plus in
    let times = g.A.Arithmetic.times in
    let xs = λ (k : ℕ). slice_get left (from + k) in
    let ys = λ (k : ℕ). slice_get right (k * columns + here) in
    let sum = column_sum plus times g.A.Zero.zero left from right columns in
    let x = first_of_row left from done c.requires.row c.index-left-from.result c.index-left-from.is in
    let y = second_of_row left from done c.requires.row c.index-left-from-2.result c.index-left-from-2.is in
    let z = third_of_row left from done c.requires.row c.index-left-from-3.result c.index-left-from-3.is in
    let w = fourth_of_row left from done c.requires.row c.index-left-from-4.result c.index-left-from-4.is in
    let one = first_of_column right columns done here c.requires.cells below c.index-right-one.result c.index-right-one.is in
    let two = second_of_column right columns done here c.requires.cells below c.index-right-two.result c.index-right-two.is in
    let three = third_of_column right columns done here c.requires.cells below c.index-right-three.result c.index-right-three.is in
    let four = fourth_of_column right columns done here c.requires.cells below c.index-right-four.result c.index-right-four.is in
    let on = sum_taken_on plus times g.A.Zero.zero xs ys in
    let so_far = sym (slice_get_read c.loop-j.sums (length c.loop-j.sums) here c.index-sums-j.result refl within c.index-sums-j.is) ∙ kept.left here (omega arith) ∙ c.requires.before here below in
    let by_one = on done c.index-sums-j.result c.index-left-from.result c.index-right-one.result c.add_product.result c.add_product.ensures x one so_far in
    let by_two = on (done + 1) c.add_product.result c.index-left-from-2.result c.index-right-two.result c.add_product-sum.result c.add_product-sum.ensures y two by_one in
    let by_three = on (done + 1 + 1) c.add_product-sum.result c.index-left-from-3.result c.index-right-three.result c.add_product-in-loop-j.result c.add_product-in-loop-j.ensures z three by_two in
    let by_four = on (done + 1 + 1 + 1) c.add_product-in-loop-j.result c.index-left-from-4.result c.index-right-four.result c.add_product-in-loop-j-2.result c.add_product-in-loop-j-2.ensures w four by_three in
    let last : done + 1 + 1 + 1 + 1 ≡ done + 4 = omega arith in
    record {
      count = length-set c.loop-j.sums here c.add_product-in-loop-j-2.result ∙ kept.count;
      done = one_put c.loop-j.sums here c.add_product-in-loop-j-2.result (λ j. sum j (done + 4)) within (by_four ∙ ap (sum here) last) kept.done;
      left = rest_left c.loop-j.sums here c.add_product-in-loop-j-2.result (slice_get c.args.sums.now) kept.left;
    }
