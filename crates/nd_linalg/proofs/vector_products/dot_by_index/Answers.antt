use Rattle.std.proofs.Common.{◌≡◌, ◌∙◌, ap, arith}
use Rattle.std.specs.Prelude.{slice_index}
use Rattle.std.proofs.lemmas.Grind.{common_steps}
use Rattle.nd_array_core.specs.ElementsByCoordinates.{element_of_1}
use Rattle.nd_linalg.specs.DotAndMatrixProducts.{sum_of_products}
use Rattle.nd_linalg.proofs.vector_products.dot_by_index.Goals as goal

pub returns : goal.returns
returns g c =
    let through : c.loop-k.k ≡ c.dim-count.result = omega arith in
    c.loop-k.invariant
    ∙ ap (sum_of_products g.A.Arithmetic.plus g.A.Arithmetic.times g.A.Zero.zero (element_of_1 c.args.left.now) (element_of_1 c.args.right.now)) (through ∙ ap (λ ns. slice_index ns 0) c.dim-count.ensures.lengths)

pub loop-k-preserved : goal.loop-k-preserved
loop-k-preserved g c = grind (arith, common_steps)
