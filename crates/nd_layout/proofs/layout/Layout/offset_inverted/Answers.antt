use Rattle.nd_layout.proofs.steps.AxisCollapseSplitInvert.{invert_is_step}
use Rattle.nd_layout.proofs.layout.Layout.offset_inverted.Goals as goal

pub returns-clause-step : goal.returns-clause-step
returns-clause-step g c = invert_is_step (g.D.Dimension.lengths c.args.self.now.dim) (g.T.StrideList.strides_of c.args.self.now.strides) c.args.axis c.args.self.now.as_many c.requires c.args.self.now.offset c.offset_after.result c.args.self.now.spread (rw (c.saturating_sub.ensures, c.length-len.ensures) at c.offset_after.ensures.moved)
