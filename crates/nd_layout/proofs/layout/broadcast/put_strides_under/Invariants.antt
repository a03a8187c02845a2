use Rattle.nd_layout.proofs.NamesFromOtherCrates.{pos, IsFilledBelow}
use Rattle.nd_layout.specs.StridesAfterLayoutCalls.{broadcast_strides}
use Rattle.nd_layout.proofs.layout.broadcast.put_strides_under.Given as goal

abbrev pub invariant-loop-axis : goal.invariant-loop-axis
invariant-loop-axis g l = IsFilledBelow (pos 0) (broadcast_strides l.from l.strides l.to) (g.T.StrideList.strides_of l.out) l.axis
