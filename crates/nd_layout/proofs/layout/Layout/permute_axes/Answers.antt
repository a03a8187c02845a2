use Rattle.nd_layout.proofs.NamesFromOtherCrates.{arith, unpermuted_list}
use Rattle.nd_layout.specs.ValidLayoutsAndSteps.{IsStep}
use Rattle.nd_layout.proofs.steps.StepsKeepValidLayouts.{step_reaches}
use Rattle.nd_layout.proofs.steps.PermuteStep.{permute_is_step}
use Rattle.nd_layout.proofs.layout.Layout.permute_axes.Goals as goal

pub returns-clause-step : goal.returns-clause-step
returns-clause-step g c =
    rw (c.permute.ensures.lengths, c.permute.ensures.strides) (permute_is_step c.args.self.now.offset (g.D.Dimension.lengths c.args.self.now.dim) (g.T.StrideList.strides_of c.args.self.now.strides) c.args.axes.now c.args.self.now.as_many c.requires)

pub invariant_of-self : goal.invariant_of-self
invariant_of-self g c =
    let step : IsStep c.args.self.now.offset (g.D.Dimension.lengths c.args.self.now.dim) (g.T.StrideList.strides_of c.args.self.now.strides) c.args.self.now.offset (g.D.Dimension.lengths c.permute.new.dim) (g.T.StrideList.strides_of c.permute.new.strides) (unpermuted_list c.args.axes.now) =
    rw (c.permute.ensures.lengths, c.permute.ensures.strides) (permute_is_step c.args.self.now.offset (g.D.Dimension.lengths c.args.self.now.dim) (g.T.StrideList.strides_of c.args.self.now.strides) c.args.axes.now c.args.self.now.as_many c.requires) in
    record { as_many = step.as_many; spread = omega (arith, step.spread, c.args.self.now.spread); checked = step.checked c.args.self.now.checked; reach = step_reaches step c.args.self.now.reach }
