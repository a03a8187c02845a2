use Rattle.nd_shape_and_slice.proofs.CommonElements.{IsMetUpTo}
use Rattle.nd_shape_and_slice.proofs.elements_in_common.slices_intersect.Given as goal

abbrev pub invariant-loop-len : goal.invariant-loop-len
invariant-loop-len l = IsMetUpTo l.shape l.a l.b l.len-index l.in_a l.in_b
