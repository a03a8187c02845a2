use Rattle.nd_layout.proofs.NamesFromOtherCrates.{arith}
use Rattle.std.proofs.lemmas.Grind.{common_steps}
use Rattle.nd_layout.proofs.reshape.standard_layouts_and_runs.count_of.Goals as goal

pub overflow_mul-count : goal.overflow_mul-count
overflow_mul-count c = grind (arith, common_steps)

pub loop-length-preserved : goal.loop-length-preserved
loop-length-preserved c = grind (arith, common_steps)
