use Rattle.std.proofs.Common.{◌<◌, ap, sym, ◌∙◌, arith}
use Rattle.std.specs.Prelude.{slice_index}
use Rattle.std.proofs.lemmas.Grind.{common_steps}
use Rattle.nd_array_core.specs.ArrayMeaning.{meaning_of}
use Rattle.nd_linalg.proofs.SumsOfProducts.{row_and_column}
use Rattle.nd_linalg.proofs.matrix_product.matrix_dot.Goals as goal

pub returns-clause-sums : goal.returns-clause-sums
returns-clause-sums g c i j h k =
    let rows_are = ap (λ s. slice_index s 0) c.dim-rows.ensures.lengths in
    let inner_is = ap (λ s. slice_index s 1) c.dim-rows.ensures.lengths in
    let below_is = ap (λ s. slice_index s 0) c.dim-same.ensures.lengths in
    let columns_are = ap (λ s. slice_index s 1) c.dim-same.ensures.lengths in
    let row : i < c.dim-rows.result.0 = omega (arith, h, rows_are) in
    let column : j < c.dim-same.result.1 = omega (arith, k, columns_are) in
    c.of_cells-2.ensures.elements i j row column
    ∙ (c.in_ok-cells.ensures.each i j row column
    ∙ row_and_column g.A.Arithmetic.plus g.A.Arithmetic.times g.A.Zero.zero (meaning_of c.args.a.now) (meaning_of c.args.b.now) c.elements_by_rank.ensures.each c.elements_by_rank-2.ensures.each c.dim-rows.result.0 c.dim-rows.result.1 (sym c.dim-rows.ensures.lengths) c.slice.result.now c.slice-2.result.now (c.slice.ensures ∙ c.in_ok-one.ensures) (c.slice-2.ensures ∙ c.in_ok-other.ensures) c.dim-same.result.0 c.dim-same.result.1 (sym c.dim-same.ensures.lengths) (below_is ∙ c.requires.fits ∙ sym inner_is) i j row column)

pub product_of-requires-clause-right : goal.product_of-requires-clause-right
product_of-requires-clause-right g c = grind (arith, common_steps)

pub product_of-requires-clause-fits : goal.product_of-requires-clause-fits
product_of-requires-clause-fits g c = grind (arith, common_steps)

pub product_of-requires-clause-left : goal.product_of-requires-clause-left
product_of-requires-clause-left g c = grind (arith, common_steps)
