use Rattle.nd_layout.proofs.NamesFromOtherCrates.{arith}
use Rattle.std.proofs.lemmas.Grind.{common_steps}
use Rattle.nd_layout.proofs.layout.broadcast.can_broadcast.Goals as goal

pub returns : goal.returns
returns c = grind (arith, common_steps)
