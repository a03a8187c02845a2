use Rattle.std.proofs.Common.{◌≡◌, length, ap, refl, sym, ◌∙◌, arith}
use Rattle.std.specs.Prelude.{slice_index}
use Rattle.nd_shape_and_slice.specs.ShapesAndIndexOrders.{size_of}
use Rattle.nd_array_core.specs.ArrayMeaning.{meaning_of}
use Rattle.nd_linalg.proofs.SumsOfProducts.{line_and_line}
use Rattle.nd_linalg.proofs.vector_products.dot.Goals as goal

pub returns-in-Some-as_slice : goal.returns-in-Some-as_slice
returns-in-Some-as_slice g c =
    let count_is = ap (λ s. slice_index s 0) c.dim-count.ensures.lengths in
    let other_is = ap (λ s. slice_index s 0) c.dim-same.ensures.lengths in
    let same : c.dim-same.result ≡ c.dim-count.result = other_is ∙ c.requires ∙ sym count_is in
    let size = ap size_of c.dim-same.ensures.lengths in
    let long : length c.in-Some-as_slice.ys.now ≡ c.dim-count.result = ap length c.in-Some-as_slice.ensures.elements ∙ c.elements_by_rank-2.ensures.count ∙ sym size ∙ omega (arith, same) in
    c.sum_along.ensures
    ∙ line_and_line g.A.Arithmetic.plus g.A.Arithmetic.times g.A.Zero.zero (meaning_of c.args.left.now) (meaning_of c.args.right.now) c.elements_by_rank.ensures.each c.elements_by_rank-2.ensures.each c.dim-count.result c.dim-same.result (sym c.dim-count.ensures.lengths) (sym c.dim-same.ensures.lengths) same c.in-Some.xs.now c.in-Some-as_slice.ys.now c.in-Some.ensures.elements c.in-Some-as_slice.ensures.elements 0 (length c.in-Some-as_slice.ys.now) refl long
