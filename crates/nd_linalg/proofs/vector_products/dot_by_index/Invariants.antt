use Rattle.std.proofs.Common.{◌≡◌, Some}
use Rattle.nd_array_core.specs.ElementsByCoordinates.{element_of_1}
use Rattle.nd_linalg.specs.DotAndMatrixProducts.{sum_of_products}
use Rattle.nd_linalg.proofs.vector_products.dot_by_index.Given as goal

abbrev pub invariant-loop-k : goal.invariant-loop-k
invariant-loop-k g l = Some l.sum ≡ sum_of_products g.A.Arithmetic.plus g.A.Arithmetic.times g.A.Zero.zero (element_of_1 l.left) (element_of_1 l.right) l.k
