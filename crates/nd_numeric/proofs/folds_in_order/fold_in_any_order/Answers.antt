use Rattle.std.proofs.Common.{rules}
use Rattle.nd_numeric.proofs.folds_in_order.fold_in_any_order.Goals as goal

pub returns : goal.returns
returns g c = c.fold.ensures.settled (λ total x. g.O.Operation.gives c.args.operation total x) (search rules) c.requires
