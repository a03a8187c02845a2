use Rattle.nd_layout.proofs.NamesFromOtherCrates.{arith, indexed_index}
use Rattle.std.proofs.lemmas.Grind.{common_steps}
use Rattle.nd_layout.specs.ValidLayoutsAndSteps.{IsStep}
use Rattle.nd_layout.proofs.steps.StepsKeepValidLayouts.{step_reaches}
use Rattle.nd_layout.proofs.steps.IndexAxisAndInsertAxis.{index_is_step}
use Rattle.nd_layout.proofs.layout.Layout.index_axis.Goals as goal

pub returns-clause-step : goal.returns-clause-step
returns-clause-step g c =
    let step : IsStep c.args.self.now.offset (g.D.Dimension.lengths c.args.self.now.dim) (g.T.StrideList.strides_of c.args.self.now.strides) c.offset_collapsed-offset.result (g.D.Smaller.Dimension.lengths c.remove_axis-dim.result) (g.D.Smaller.Strides.StrideList.strides_of c.strides_without-strides.result) (indexed_index c.args.axis c.args.index) =
    rw (c.remove_axis-dim.ensures, c.strides_without-strides.ensures, c.slice.ensures) (index_is_step (g.D.Dimension.lengths c.args.self.now.dim) (g.T.StrideList.strides_of c.args.self.now.strides) c.args.axis c.args.index c.args.self.now.offset c.offset_collapsed-offset.result c.args.self.now.as_many c.requires.on c.offset_collapsed-offset.ensures.step) in
    step

pub invariant_of-result : goal.invariant_of-result
invariant_of-result g c =
    let step : IsStep c.args.self.now.offset (g.D.Dimension.lengths c.args.self.now.dim) (g.T.StrideList.strides_of c.args.self.now.strides) c.offset_collapsed-offset.result (g.D.Smaller.Dimension.lengths c.remove_axis-dim.result) (g.D.Smaller.Strides.StrideList.strides_of c.strides_without-strides.result) (indexed_index c.args.axis c.args.index) =
    rw (c.remove_axis-dim.ensures, c.strides_without-strides.ensures, c.slice.ensures) (index_is_step (g.D.Dimension.lengths c.args.self.now.dim) (g.T.StrideList.strides_of c.args.self.now.strides) c.args.axis c.args.index c.args.self.now.offset c.offset_collapsed-offset.result c.args.self.now.as_many c.requires.on c.offset_collapsed-offset.ensures.step) in
    record { as_many = step.as_many; spread = omega (arith, step.spread, c.args.self.now.spread); checked = step.checked c.args.self.now.checked; reach = step_reaches step c.args.self.now.reach }

pub strides_without-strides-requires-clause-as_many : goal.strides_without-strides-requires-clause-as_many
strides_without-strides-requires-clause-as_many g c = grind (arith, common_steps)
