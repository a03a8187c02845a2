use Rattle.nd_layout.proofs.NamesFromOtherCrates.{arith}
use Rattle.nd_layout.proofs.steps.StepsKeepValidLayouts.{step_reaches}
use Rattle.nd_layout.proofs.steps.AxisCollapseSplitInvert.{lower_is_step}
use Rattle.nd_layout.proofs.layout.Layout.keep_lower.Goals as goal

pub returns-clause-step : goal.returns-clause-step
returns-clause-step g c =
    rw c.set_length.ensures (lower_is_step (g.D.Dimension.lengths c.args.self.now.dim) (g.T.StrideList.strides_of c.args.self.now.strides) c.args.axis c.args.self.now.as_many c.requires.on c.args.index c.args.self.now.offset c.requires.within)

pub invariant_of-self : goal.invariant_of-self
invariant_of-self g c =
    let step = lower_is_step (g.D.Dimension.lengths c.args.self.now.dim) (g.T.StrideList.strides_of c.args.self.now.strides) c.args.axis c.args.self.now.as_many c.requires.on c.args.index c.args.self.now.offset c.requires.within in
    rw c.set_length.ensures
    (record { as_many = step.as_many; spread = omega (arith, step.spread, c.args.self.now.spread); checked = step.checked c.args.self.now.checked; reach = step_reaches step c.args.self.now.reach })
