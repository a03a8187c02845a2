use Rattle.nd_shape_and_slice.proofs.FortranStridesLoop.{IsFilledTo}
use Rattle.nd_shape_and_slice.proofs.strides.fortran_strides.Given as goal

abbrev pub invariant-loop-axis : goal.invariant-loop-axis
invariant-loop-axis g l = IsFilledTo l.axis l.step l.lengths (g.D.Strides.StrideList.strides_of l.strides)
