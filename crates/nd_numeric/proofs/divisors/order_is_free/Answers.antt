use Rattle.nd_numeric.proofs.AllElementsPass.{order_free}
use Rattle.nd_numeric.proofs.divisors.order_is_free.Goals as goal

pub returns : goal.returns
returns g c = order_free g.A.Arithmetic.is_divisor
