use Rattle.std.proofs.Common.{◌∙◌, refl}
use Rattle.nd_array_core.specs.ArrayMeaning.{meaning_of}
use Rattle.nd_array_core.specs.elements.BroadcastPairs.{broadcast_at}
use Rattle.nd_numeric.proofs.FoldOfSelfPairs.{folded_with_other}
use Rattle.nd_numeric.proofs.folds_in_order.fold_in_order.Goals as goal

pub returns : goal.returns
returns g c =
    let m = meaning_of c.args.array.now in
    c.fold_pairs_in_order.ensures
    ∙ folded_with_other (g.O.Operation.gives c.args.operation) m (broadcast_at m.shape m) (λ i. c.broadcast_to_itself.ensures.elements m.shape refl i) c.args.init
