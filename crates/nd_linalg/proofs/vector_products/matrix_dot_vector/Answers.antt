use Rattle.std.proofs.Common.{◌≡◌, ◌<◌, length, ap, sym, ◌∙◌, arith}
use Rattle.std.specs.Prelude.{slice_index}
use Rattle.nd_shape_and_slice.specs.ShapesAndIndexOrders.{size_of}
use Rattle.nd_array_core.specs.ArrayMeaning.{meaning_of}
use Rattle.nd_linalg.proofs.SumsOfProducts.{row_and_vector}
use Rattle.nd_linalg.proofs.vector_products.matrix_dot_vector.Goals as goal

pub returns-clause-sums : goal.returns-clause-sums
returns-clause-sums g c i h =
    let rows_are = ap (λ s. slice_index s 0) c.dim-rows.ensures.lengths in
    let inner_is = ap (λ s. slice_index s 1) c.dim-rows.ensures.lengths in
    let count_is = ap (λ s. slice_index s 0) c.dim-same.ensures.lengths in
    let row : i < c.dim-rows.result.0 = omega (arith, h, rows_are) in
    let same : c.dim-same.result ≡ c.dim-rows.result.1 = count_is ∙ c.requires ∙ sym inner_is in
    let size = ap size_of c.dim-same.ensures.lengths in
    let long : length c.slice-2.result.now ≡ c.dim-rows.result.1 = ap length (c.slice-2.ensures ∙ c.in_ok-list.ensures) ∙ c.elements_by_rank-2.ensures.count ∙ sym size ∙ omega (arith, same) in
    c.of_items-2.ensures.elements i (omega (arith, row, c.in_ok-sums.ensures.count))
    ∙ (c.in_ok-sums.ensures.each i row
    ∙ row_and_vector g.A.Arithmetic.plus g.A.Arithmetic.times g.A.Zero.zero (meaning_of c.args.a.now) (meaning_of c.args.x.now) c.elements_by_rank.ensures.each c.elements_by_rank-2.ensures.each c.dim-rows.result.0 c.dim-rows.result.1 (sym c.dim-rows.ensures.lengths) c.slice.result.now c.slice-2.result.now (c.slice.ensures ∙ c.in_ok-cells.ensures) (c.slice-2.ensures ∙ c.in_ok-list.ensures) c.dim-same.result (sym c.dim-same.ensures.lengths) same (length c.slice-2.result.now) long i row)
