use Rattle.std.proofs.Common.{arith}
use Rattle.nd_iter.proofs.ListEndsTaken.{length_given}
use Rattle.nd_iter.proofs.views_along_axis.AxisIterIterator.size_hint.Goals as goal

pub returns-clause-lower : goal.returns-clause-lower
returns-clause-lower g c = grind (arith, length_given)

pub returns-clause-upper : goal.returns-clause-upper
returns-clause-upper g c = grind (arith, length_given)

pub returns-clause-exact : goal.returns-clause-exact
returns-clause-exact g c = grind (arith, length_given)
