use Rattle.nd_array_core.proofs.NamesFromOtherCrates.{◌∙◌, sym, both_ways}
use Rattle.nd_array_core.specs.reshape.ReshapeByRank.{NoShape, NotInOrder}
use Rattle.nd_array_core.proofs.reshape.into_shape.check_order.Goals as goal

pub returns-else-is_in_order-clause-refused : goal.returns-else-is_in_order-clause-refused
returns-else-is_in_order-clause-refused g c =
    let size = c.has_size.ensures.0 c.if-has_size.true in
    rw c.from_kind.ensures (NotInOrder (size.0, size.1 ∙ c.size.ensures) (λ laid. both_ways c.is_in_order.result c.if-is_in_order.false (c.is_in_order.ensures.1 laid)))

pub returns-else-has_size-clause-refused : goal.returns-else-has_size-clause-refused
returns-else-has_size-clause-refused g c =
    rw c.from_kind-else-has_size.ensures (NoShape (λ fits. both_ways c.has_size.result c.if-has_size.false (c.has_size.ensures.1 (fits.0, fits.1 ∙ sym c.size.ensures))))
