use Rattle.nd_shape_and_slice.proofs.SeenAxes.{IsViewStep}
use Rattle.nd_shape_and_slice.proofs.axis_numbers_and_permutations.marks_each_axis.Given as goal

abbrev pub invariant-loop-axis : goal.invariant-loop-axis
invariant-loop-axis l = IsViewStep l.axes l.ndim l.seen l.axis-index
