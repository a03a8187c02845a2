use Rattle.std.proofs.lemmas.Result.{IfOk-weaker}
use Rattle.nd_array_core.specs.ArrayMeaning.{shape_of, element_at}
use Rattle.nd_numeric.specs.LeastAndGreatest.{lesser_by}
use Rattle.nd_numeric.proofs.BestOfLanes.{ends_are}
use Rattle.nd_numeric.proofs.least_and_greatest_of_lanes.min_axis.Goals as goal

pub returns-clause-least : goal.returns-clause-least
returns-clause-least g c =
    IfOk-weaker c.fold_lanes.result _ _ (λ a are. ends_are (lesser_by g.A.Ordered.order) (shape_of c.args.array.now) (element_at c.args.array.now) c.args.axis.0 (element_at a) are) c.fold_lanes.ensures.folded
