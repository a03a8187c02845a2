use Rattle.std.proofs.Common.{rules}
use Rattle.std.proofs.lemmas.Result.{IfOk-weaker}
use Rattle.nd_numeric.proofs.sums_of_lanes.fold_lanes.Goals as goal

pub returns-clause-folded : goal.returns-clause-folded
returns-clause-folded g c =
    IfOk-weaker c.fold_axis.result _ _ (λ a alike. alike (λ total x. g.O.Operation.gives c.args.operation total x) (search rules)) c.fold_axis.ensures.alike
