use Rattle.nd_layout.proofs.NamesFromOtherCrates.{arith}
use Rattle.std.proofs.lemmas.Grind.{common_steps}
use Rattle.nd_layout.proofs.layout.broadcast.lengths_stretch.Goals as goal

pub loop-axis-preserved : goal.loop-axis-preserved
loop-axis-preserved c = grind (arith, common_steps)

pub returns-then-from-axis-ne1 : goal.returns-then-from-axis-ne1
returns-then-from-axis-ne1 c = grind (arith, common_steps)

pub returns : goal.returns
returns c = grind (arith, common_steps)
