use Rattle.nd_layout.proofs.NamesFromOtherCrates.{arith, pos, inserted_index}
use Rattle.std.proofs.lemmas.Grind.{common_steps}
use Rattle.nd_layout.specs.ValidLayoutsAndSteps.{IsStep}
use Rattle.nd_layout.proofs.steps.StepsKeepValidLayouts.{step_reaches}
use Rattle.nd_layout.proofs.steps.IndexAxisAndInsertAxis.{insert_is_step}
use Rattle.nd_layout.proofs.layout.Layout.insert_axis.Goals as goal

pub returns-clause-step : goal.returns-clause-step
returns-clause-step g c =
    let step : IsStep c.args.self.now.offset (g.D.Dimension.lengths c.args.self.now.dim) (g.T.StrideList.strides_of c.args.self.now.strides) c.args.self.now.offset (g.D.Larger.Dimension.lengths c.insert_axis-dim.result) (g.D.Larger.Strides.StrideList.strides_of c.strides_with-strides.result) (inserted_index c.args.axis) =
    rw (c.insert_axis-dim.ensures, c.strides_with-strides.ensures, c.slice.ensures) (insert_is_step (g.D.Dimension.lengths c.args.self.now.dim) (g.T.StrideList.strides_of c.args.self.now.strides) c.args.axis c.args.self.now.as_many c.requires.place c.args.self.now.offset (pos 1)) in
    step

pub invariant_of-result : goal.invariant_of-result
invariant_of-result g c =
    let step : IsStep c.args.self.now.offset (g.D.Dimension.lengths c.args.self.now.dim) (g.T.StrideList.strides_of c.args.self.now.strides) c.args.self.now.offset (g.D.Larger.Dimension.lengths c.insert_axis-dim.result) (g.D.Larger.Strides.StrideList.strides_of c.strides_with-strides.result) (inserted_index c.args.axis) =
    rw (c.insert_axis-dim.ensures, c.strides_with-strides.ensures, c.slice.ensures) (insert_is_step (g.D.Dimension.lengths c.args.self.now.dim) (g.T.StrideList.strides_of c.args.self.now.strides) c.args.axis c.args.self.now.as_many c.requires.place c.args.self.now.offset (pos 1)) in
    record { as_many = step.as_many; spread = omega (arith, step.spread, c.args.self.now.spread); checked = step.checked c.args.self.now.checked; reach = step_reaches step c.args.self.now.reach }

pub strides_with-strides-requires-clause-as_many : goal.strides_with-strides-requires-clause-as_many
strides_with-strides-requires-clause-as_many g c = grind (arith, common_steps)
