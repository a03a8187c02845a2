use Rattle.nd_layout.proofs.order_lemmas.AxisJoins.{IsJoinedFrom}
use Rattle.nd_layout.proofs.order.joined_axes.join.Given as goal

abbrev pub invariant-loop-axis : goal.invariant-loop-axis
invariant-loop-axis g l = IsJoinedFrom (g.D.Dimension.lengths l.fn.dim) (g.T.StrideList.strides_of l.fn.strides) l.axis l.at (g.D.Dimension.lengths l.dim) (g.T.StrideList.strides_of l.strides)

abbrev pub decreases-loop-axis : goal.decreases-loop-axis
decreases-loop-axis g l = l.axis
