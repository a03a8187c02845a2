use Rattle.nd_layout.proofs.order_lemmas.FurthestSteppingAxis.{StepsFurthestBelow}
use Rattle.nd_layout.proofs.layout.merge_axes.furthest_axis.Given as goal

abbrev pub invariant-loop-axis : goal.invariant-loop-axis
invariant-loop-axis l = StepsFurthestBelow l.lengths l.strides l.axis l.best
