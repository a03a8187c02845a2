use Rattle.nd_array_core.proofs.NamesFromOtherCrates.{both_ways}
use Rattle.nd_array_core.specs.reshape.ReshapeByRank.{Rows, Columns}
use Rattle.nd_array_core.proofs.reshape.into_shape.order_tried.Goals as goal

pub returns-then-is_in_order : goal.returns-then-is_in_order
returns-then-is_in_order g c = Rows (c.is_in_order.ensures.0 c.if-is_in_order.true)

pub returns-else-is_in_order : goal.returns-else-is_in_order
returns-else-is_in_order g c = Columns (λ lie. both_ways c.is_in_order.result c.if-is_in_order.false (c.is_in_order.ensures.1 lie))
