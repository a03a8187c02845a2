use Rattle.std.proofs.Common.{rules}
use Rattle.uses_nd_array_core_numbers.proofs.outer_products_and_triangles.outer_product.Goals as goal

pub returns-clause-cells : goal.returns-clause-cells
returns-clause-cells g c = c.from_shape_fn.ensures.cells _ _ _ (search rules) (λ x y f' inside call. search rules)
