use Rattle.std.proofs.Common.{arith}
use Rattle.std.proofs.lemmas.Grind.{common_steps}
use Rattle.nd_iter.proofs.elements_left_by_rows.RowEnds.last.Goals as goal

pub returns-clause-last : goal.returns-clause-last
returns-clause-last g c = grind (arith, common_steps)

pub returns-in-Some-split_last-clause-last : goal.returns-in-Some-split_last-clause-last
returns-in-Some-split_last-clause-last g c = grind (arith, common_steps)

pub returns-in-Some-clause-last : goal.returns-in-Some-clause-last
returns-in-Some-clause-last g c = grind (arith, common_steps)
