use Rattle.nd_shape_and_slice.proofs.NamesFromOtherCrates.{pos}
use Rattle.nd_shape_and_slice.proofs.FillLoop.{IsFilledBelow}
use Rattle.nd_shape_and_slice.proofs.strides.strides_from.Given as goal

abbrev pub invariant-loop-axis : goal.invariant-loop-axis
invariant-loop-axis g l = IsFilledBelow (pos 0) l.list (g.D.Strides.StrideList.strides_of l.strides) l.axis
