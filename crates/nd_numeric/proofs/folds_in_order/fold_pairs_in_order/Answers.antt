use Rattle.std.proofs.Common.{rules}
use Rattle.nd_numeric.proofs.folds_in_order.fold_pairs_in_order.Goals as goal

pub returns : goal.returns
returns g c = c.zip_fold.ensures.settled (λ total x y. g.O.Operation.gives c.args.operation total x) (search rules)
