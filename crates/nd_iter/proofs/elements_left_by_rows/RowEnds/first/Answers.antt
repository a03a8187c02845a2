use Rattle.std.proofs.Common.{arith}
use Rattle.std.proofs.lemmas.Grind.{common_steps}
use Rattle.nd_iter.proofs.elements_left_by_rows.RowEnds.first.Goals as goal

pub returns-in-Some-clause-first : goal.returns-in-Some-clause-first
returns-in-Some-clause-first g c = grind (arith, common_steps)

pub returns-in-Some-split_first-clause-first : goal.returns-in-Some-split_first-clause-first
returns-in-Some-split_first-clause-first g c = grind (arith, common_steps)

pub returns-clause-first : goal.returns-clause-first
returns-clause-first g c = grind (arith, common_steps)
