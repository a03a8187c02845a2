use Rattle.nd_shape_and_slice.proofs.SliceLists.{IsFitUpTo}
use Rattle.nd_shape_and_slice.proofs.slice_info.elements_fit.Given as goal

abbrev pub invariant-loop-element : goal.invariant-loop-element
invariant-loop-element l = IsFitUpTo l.lengths l.elements l.axis l.element-index
