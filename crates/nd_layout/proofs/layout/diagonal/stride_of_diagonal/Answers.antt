use Rattle.nd_layout.proofs.NamesFromOtherCrates.{arith}
use Rattle.nd_layout.proofs.steps.DiagonalStep.{diagonal-le}
use Rattle.nd_layout.proofs.layout.diagonal.stride_of_diagonal.Goals as goal

pub sum_of_strides-requires-clause-long : goal.sum_of_strides-requires-clause-long
sum_of_strides-requires-clause-long c a on = let le = diagonal-le c.args.lengths.now a on in omega (arith, le, c.requires.least, c.if-len-le1.false)
