use Rattle.std.proofs.Common.{rules}
use Rattle.uses_nd_array_core.specs.TablesBuiltGrownAndReshaped.{number_at}
use Rattle.uses_nd_array_core.proofs.constructors.table_by_index.Goals as goal

pub returns-clause-cells : goal.returns-clause-cells
returns-clause-cells c = c.from_shape_fn.ensures.alike number_at (λ x y f inside call. search rules)
