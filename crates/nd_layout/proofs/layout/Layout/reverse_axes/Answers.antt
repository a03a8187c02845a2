use Rattle.nd_layout.proofs.NamesFromOtherCrates.{arith, reverse}
use Rattle.nd_layout.specs.ValidLayoutsAndSteps.{IsStep}
use Rattle.nd_layout.proofs.steps.StepsKeepValidLayouts.{step_reaches}
use Rattle.nd_layout.proofs.steps.SwappedOrReversedAxes.{reverse_is_step}
use Rattle.nd_layout.proofs.layout.Layout.reverse_axes.Goals as goal

pub returns-clause-step : goal.returns-clause-step
returns-clause-step g c =
    rw (c.reverse.ensures.lengths, c.reverse.ensures.strides) (reverse_is_step c.args.self.now.offset (g.D.Dimension.lengths c.args.self.now.dim) (g.T.StrideList.strides_of c.args.self.now.strides) c.args.self.now.as_many)

pub invariant_of-self : goal.invariant_of-self
invariant_of-self g c =
    let step : IsStep c.args.self.now.offset (g.D.Dimension.lengths c.args.self.now.dim) (g.T.StrideList.strides_of c.args.self.now.strides) c.args.self.now.offset (g.D.Dimension.lengths c.reverse.new.dim) (g.T.StrideList.strides_of c.reverse.new.strides) reverse =
    rw (c.reverse.ensures.lengths, c.reverse.ensures.strides) (reverse_is_step c.args.self.now.offset (g.D.Dimension.lengths c.args.self.now.dim) (g.T.StrideList.strides_of c.args.self.now.strides) c.args.self.now.as_many) in
    record { as_many = step.as_many; spread = omega (arith, step.spread, c.args.self.now.spread); checked = step.checked c.args.self.now.checked; reach = step_reaches step c.args.self.now.reach }
