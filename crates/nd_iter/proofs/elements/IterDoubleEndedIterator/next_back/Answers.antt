use Rattle.std.proofs.Common.{arith}
use Rattle.std.proofs.lemmas.Grind.{common_steps}
use Rattle.nd_iter.proofs.elements.IterDoubleEndedIterator.next_back.Goals as goal

pub last_in-requires-clause-all : goal.last_in-requires-clause-all
last_in-requires-clause-all g c = grind (arith, common_steps)

pub invariant_of-self-in-Some : goal.invariant_of-self-in-Some
invariant_of-self-in-Some g c = grind (arith, common_steps)

pub invariant_of-self-in-None : goal.invariant_of-self-in-None
invariant_of-self-in-None g c = grind (arith, common_steps)
