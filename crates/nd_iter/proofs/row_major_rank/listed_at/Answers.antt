use Rattle.std.proofs.Common.{arith}
use Rattle.std.proofs.lemmas.Grind.{common_steps}
use Rattle.nd_iter.proofs.row_major_rank.listed_at.Goals as goal

pub returns-then-holds-clause-hand : goal.returns-then-holds-clause-hand
returns-then-holds-clause-hand g c = grind (arith, common_steps)

pub returns-then-holds-clause-listed : goal.returns-then-holds-clause-listed
returns-then-holds-clause-listed g c = grind (arith, common_steps)

pub returns-clause-listed : goal.returns-clause-listed
returns-clause-listed g c = grind (arith, common_steps)
