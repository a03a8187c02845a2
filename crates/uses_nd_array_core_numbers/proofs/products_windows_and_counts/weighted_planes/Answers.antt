use Rattle.std.proofs.Common.{rules}
use Rattle.uses_nd_array_core_numbers.proofs.products_windows_and_counts.weighted_planes.Goals as goal

pub returns : goal.returns
returns g c = c.from_shape_fn.ensures.cells_of_3 _ _ _ _ (search rules) (λ x y f' inside call. search rules)
