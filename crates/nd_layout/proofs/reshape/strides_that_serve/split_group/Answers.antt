use Rattle.nd_layout.proofs.NamesFromOtherCrates.{arith}
use Rattle.std.proofs.lemmas.Grind.{common_steps}
use Rattle.nd_layout.proofs.reshape.strides_that_serve.split_group.Goals as goal

pub step_left-step-requires-clause-fits : goal.step_left-step-requires-clause-fits
step_left-step-requires-clause-fits c = grind (arith, common_steps)
