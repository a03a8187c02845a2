use Rattle.std.proofs.Common.{rules}
use Rattle.std.proofs.lemmas.Result.{IfOk-weaker}
use Rattle.nd_array_core.specs.ConcatenationAndSplit.{row_major_elements}
use Rattle.nd_array_core.specs.ArrayMeaning.{meaning_of, element_at}
use Rattle.nd_numeric.specs.IndexOfLeastAndGreatest.{beats_by, rank_of_best}
use Rattle.nd_numeric.proofs.BestPositionsInLanes.{best_positions}
use Rattle.nd_numeric.proofs.FoldKeepingTheBest.{beats_strict}
use Rattle.nd_numeric.proofs.coordinates_of_least_and_greatest.best_of_lanes.Goals as goal

pub returns-clause-best : goal.returns-clause-best
returns-clause-best g c =
    let order = g.A.Ordered.order in
    let beats = beats_by order c.args.greatest in
    IfOk-weaker c.map_axis.result _ _ (λ a alike. best_positions beats (beats_strict order g.met.A.Ordered.order_law c.args.greatest) (meaning_of c.args.array.now) c.args.axis.0 (element_at a) (alike (λ lane. rank_of_best beats (row_major_elements lane)) (search rules))) c.map_axis.ensures.alike
