use Rattle.std.proofs.lemmas.Result.{IfOk-weaker}
use Rattle.nd_array_core.specs.ArrayMeaning.{shape_of, element_at}
use Rattle.nd_numeric.specs.LeastAndGreatest.{greater_by}
use Rattle.nd_numeric.proofs.BestOfLanes.{ends_are}
use Rattle.nd_numeric.proofs.least_and_greatest_of_lanes.max_axis.Goals as goal

pub returns-clause-greatest : goal.returns-clause-greatest
returns-clause-greatest g c =
    IfOk-weaker c.fold_lanes.result _ _ (λ a are. ends_are (greater_by g.A.Ordered.order) (shape_of c.args.array.now) (element_at c.args.array.now) c.args.axis.0 (element_at a) are) c.fold_lanes.ensures.folded
