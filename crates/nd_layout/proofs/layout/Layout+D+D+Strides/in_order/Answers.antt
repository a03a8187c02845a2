use Rattle.nd_layout.proofs.steps.NewLayoutsInAnOrder.{ordered_is_ranked, ranked_is_valid}
use Rattle.nd_layout.proofs.layout.Layout+D+D+Strides.in_order.Goals as goal

pub invariant_of-result : goal.invariant_of-result
invariant_of-result g c =
    let valid = ranked_is_valid (ordered_is_ranked c.args.order (g.D.Dimension.lengths c.args.dim) c.requires) c.requires in
    record { as_many = rw c.strides_in-strides.ensures valid.as_many; spread = rw c.strides_in-strides.ensures valid.spread; checked = valid.checked; reach = rw c.strides_in-strides.ensures valid.reach }
