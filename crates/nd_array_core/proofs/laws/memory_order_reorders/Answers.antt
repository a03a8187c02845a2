use Rattle.nd_array_core.proofs.reshape_lemmas.ElementsInPlaceOrder.{memory_order_reorders}
use Rattle.nd_array_core.proofs.laws.memory_order_reorders.Goals as goal

pub returns : goal.returns
returns g c = memory_order_reorders
