use Rattle.nd_layout.proofs.steps.DiagonalStep.{IsSumBelow}
use Rattle.nd_layout.proofs.layout.diagonal.sum_of_strides.Given as goal

abbrev pub invariant-loop-k : goal.invariant-loop-k
invariant-loop-k l = IsSumBelow l.lengths l.strides l.sum l.k
