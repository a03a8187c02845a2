use Rattle.nd_layout.proofs.steps.SliceListInOnePass.{IsCutTo}
use Rattle.nd_layout.proofs.layout.Layout.sliced.Given as goal

abbrev pub invariant-loop-element : goal.invariant-loop-element
invariant-loop-element g l = IsCutTo l.self.offset (g.D.Dimension.lengths l.self.dim) (g.T.StrideList.strides_of l.self.strides) l.elements l.axis l.kept l.element-index l.offset l.is_empty (g.E.Dimension.lengths l.dim) (g.E.Strides.StrideList.strides_of l.strides)
