use Rattle.std.proofs.Common.{subst, IfOk}
use Rattle.nd_array_core.specs.ArrayMeaning.{element_at}
use Rattle.nd_numeric.specs.SumsProductsAndMeans.{AreLaneFolds}
use Rattle.nd_numeric.proofs.sums_of_lanes.product_axis.Goals as goal

pub returns-clause-products : goal.returns-clause-products
returns-clause-products g c =
    subst (λ first. IfOk c.fold_lanes.result (λ a. AreLaneFolds g.A.Arithmetic.times first c.args.array.now c.args.axis.0 (element_at a))) c.one.ensures c.fold_lanes.ensures.folded
