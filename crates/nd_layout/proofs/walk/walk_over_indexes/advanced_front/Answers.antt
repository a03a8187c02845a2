use Rattle.nd_layout.proofs.NamesFromOtherCrates.{arith}
use Rattle.std.proofs.lemmas.Grind.{common_steps}
use Rattle.nd_layout.proofs.walk.walk_over_indexes.advanced_front.Goals as goal

pub returns-clause-inside : goal.returns-clause-inside
returns-clause-inside c = grind (arith, common_steps)

pub returns-clause-lies : goal.returns-clause-lies
returns-clause-lies c = grind (arith, common_steps)

pub returns-clause-rank : goal.returns-clause-rank
returns-clause-rank c = grind (arith, common_steps)
