use Rattle.nd_layout.proofs.steps.SliceEachAxisLoop.{IsEachTo}
use Rattle.nd_layout.proofs.layout.Layout.slice_each_axis.Given as goal

abbrev pub invariant-loop-axis : goal.invariant-loop-axis
invariant-loop-axis g l = IsEachTo (goal.F-pre g) (goal.F-step g) l.initial.f l.before.offset (g.D.Dimension.lengths l.before.dim) (g.T.StrideList.strides_of l.before.strides) l.axis l.f l.self.offset (g.D.Dimension.lengths l.self.dim) (g.T.StrideList.strides_of l.self.strides)
