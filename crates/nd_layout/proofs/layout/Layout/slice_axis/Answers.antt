use Rattle.nd_layout.proofs.NamesFromOtherCrates.{◌≡◌, arith, rules, set, w64, FitsSigned, to_z-of_z}
use Rattle.nd_layout.proofs.steps.AxisCollapseSplitInvert.{whole_leads}
use Rattle.nd_layout.proofs.steps.SlicingOneAxis.{slice_makes_step}
use Rattle.nd_layout.proofs.steps.StepsKeepValidLayouts.{step_reaches}
use Rattle.nd_layout.proofs.layout.Layout.slice_axis.Goals as goal

pub part_of_axis-after-requires-clause-leads : goal.part_of_axis-after-requires-clause-leads
part_of_axis-after-requires-clause-leads g c some =
    let only = rw (c.slice.ensures.lengths) at c.is_empty_shape-is_empty.ensures.1 in
    whole_leads (g.D.Dimension.lengths c.args.self.now.dim) (g.T.StrideList.strides_of c.args.self.now.strides) c.args.axis c.args.self.now.as_many c.requires.on c.args.self.now.offset c.is_empty_shape-is_empty.result c.args.self.now.reach only some

pub returns-clause-step : goal.returns-clause-step
returns-clause-step g c =
    let lengths = g.D.Dimension.lengths c.args.self.now.dim in let strides = g.T.StrideList.strides_of c.args.self.now.strides in
    let after = c.part_of_axis-after in let fits : FitsSigned w64 after.result.stride = search rules in
    let stepped : g.T.StrideList.strides_of c.set.new.self ≡ set strides c.args.axis after.result.stride = rw (to_z-of_z w64 after.result.stride fits) at c.set.ensures in
    let step = slice_makes_step lengths strides c.args.axis c.args.slice c.args.self.now.as_many c.requires.on c.requires.fits c.args.self.now.offset after.result.offset after.result.len after.result.stride c.is_empty_shape-is_empty.result (g.D.Dimension.lengths c.set_length.new.self) (g.T.StrideList.strides_of c.set.new.self) (rw (c.slice.ensures.lengths) at c.is_empty_shape-is_empty.ensures.0) after.ensures.len after.ensures.stride after.ensures.offset c.set_length.ensures stepped in
    step

pub invariant_of-self : goal.invariant_of-self
invariant_of-self g c =
    let lengths = g.D.Dimension.lengths c.args.self.now.dim in let strides = g.T.StrideList.strides_of c.args.self.now.strides in
    let after = c.part_of_axis-after in let fits : FitsSigned w64 after.result.stride = search rules in
    let stepped : g.T.StrideList.strides_of c.set.new.self ≡ set strides c.args.axis after.result.stride = rw (to_z-of_z w64 after.result.stride fits) at c.set.ensures in
    let step = slice_makes_step lengths strides c.args.axis c.args.slice c.args.self.now.as_many c.requires.on c.requires.fits c.args.self.now.offset after.result.offset after.result.len after.result.stride c.is_empty_shape-is_empty.result (g.D.Dimension.lengths c.set_length.new.self) (g.T.StrideList.strides_of c.set.new.self) (rw (c.slice.ensures.lengths) at c.is_empty_shape-is_empty.ensures.0) after.ensures.len after.ensures.stride after.ensures.offset c.set_length.ensures stepped in
    record { as_many = step.as_many; spread = omega (arith, step.spread, c.args.self.now.spread); checked = step.checked c.args.self.now.checked; reach = step_reaches step c.args.self.now.reach }
