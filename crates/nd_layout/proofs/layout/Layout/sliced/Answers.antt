use Rattle.nd_layout.proofs.NamesFromOtherCrates.{◌∙◌, arith, rules, sym, ap, leb, length, pos, w64, FitsSigned, and_parts, to_z-of_z, length-replicate, axes_kept, each_fits}
use Rattle.nd_layout.proofs.steps.SliceListInOnePass.{cut_none, cut_kept, cut_gone, cut_all, once_fits, once_leads}
use Rattle.nd_layout.proofs.steps.StepsKeepValidLayouts.{step_reaches}
use Rattle.nd_layout.proofs.layout.Layout.sliced.Goals as goal
use Rattle.nd_layout.proofs.layout.Layout.sliced.Goals.{then-keeps_axis, else-keeps_axis}

pub loop-element-init : goal.loop-element-init
loop-element-init g c =
    let fits = (and_parts (each_fits (g.D.Dimension.lengths c.args.self.now.dim) c.args.elements.now) (leb (axes_kept c.args.elements.now) 32) c.requires.fits).0 in
    let empty = rw c.slice.ensures.lengths at c.is_empty_shape-is_empty.ensures in
    let wide = ap length c.zeros-dim.ensures ∙ (length-replicate c.axes_kept.result 0 ∙ c.axes_kept.ensures) in
    cut_none c.args.self.now.offset (g.D.Dimension.lengths c.args.self.now.dim) (g.T.StrideList.strides_of c.args.self.now.strides) c.args.elements.now c.args.self.now.as_many fits c.is_empty_shape-is_empty.result (g.E.Dimension.lengths c.zeros-dim.result) (g.E.Strides.StrideList.strides_of c.zero_strides-strides.result) empty.0 empty.1 wide
    (ap length c.zero_strides-strides.ensures ∙ (length-replicate (length (g.E.Dimension.lengths c.zeros-dim.result)) (pos 0) ∙ wide))

pub axis_by-after-requires-clause-fits : goal.axis_by-after-requires-clause-fits
axis_by-after-requires-clause-fits g c =
    once_fits c.args.self.now.offset (g.D.Dimension.lengths c.args.self.now.dim) (g.T.StrideList.strides_of c.args.self.now.strides) c.args.elements.now c.loop-element.axis c.loop-element.element-index c.loop-element.offset c.loop-element.is_empty c.loop-element.invariant.once _ c.loop-element-test.true

pub axis_by-after-requires-clause-leads : goal.axis_by-after-requires-clause-leads
axis_by-after-requires-clause-leads g c =
    once_leads c.args.self.now.offset (g.D.Dimension.lengths c.args.self.now.dim) (g.T.StrideList.strides_of c.args.self.now.strides) c.args.elements.now c.loop-element.axis c.loop-element.element-index c.loop-element.offset c.loop-element.is_empty c.loop-element.invariant.once c.args.self.now.reach

pub axis_after-axis-requires : goal.axis_after-axis-requires
axis_after-axis-requires g c = omega (arith, c.loop-element.invariant.lengths.few_read, c.loop-element-test.true)

pub overflow_add-kept : goal.overflow_add-kept
overflow_add-kept g c = omega (arith, c.loop-element.invariant.lengths.few_kept, c.loop-element-test.true)

pub loop-element-preserved : goal.loop-element-preserved
loop-element-preserved g c =
    let fits = (and_parts (each_fits (g.D.Dimension.lengths c.args.self.now.dim) c.args.elements.now) (leb (axes_kept c.args.elements.now) 32) c.requires.fits).0 in
    elim c.if-keeps_axis.branch [
      | then-keeps_axis w ↦
          let stride : FitsSigned w64 c.axis_by-after.result.stride = search rules in
          rw (w.dim-is, w.strides-is, w.kept-is, w.set_length.ensures, w.set.ensures, to_z-of_z w64 c.axis_by-after.result.stride stride)
          (cut_kept c.args.self.now.offset (g.D.Dimension.lengths c.args.self.now.dim) (g.T.StrideList.strides_of c.args.self.now.strides) c.args.elements.now c.args.self.now.as_many fits c.loop-element.axis c.loop-element.kept c.loop-element.element-index c.loop-element.offset c.loop-element.is_empty (g.E.Dimension.lengths c.loop-element.dim) (g.E.Strides.StrideList.strides_of c.loop-element.strides) c.loop-element.invariant _ c.loop-element-test.true c.axis_by-after.result.len c.axis_by-after.result.offset c.none_left-is_empty.result c.axis_after-axis.result c.axis_by-after.ensures.len c.axis_by-after.ensures.offset c.axis_by-after.ensures.new c.axis_by-after.ensures.empty c.none_left-is_empty.ensures c.axis_after-axis.ensures c.axis_by-after.result.stride c.axis_by-after.ensures.stride (sym c.keeps_axis.ensures ∙ w.if-keeps_axis.true))
      | else-keeps_axis w ↦
          rw (w.dim-is, w.strides-is, w.kept-is)
          (cut_gone c.args.self.now.offset (g.D.Dimension.lengths c.args.self.now.dim) (g.T.StrideList.strides_of c.args.self.now.strides) c.args.elements.now c.args.self.now.as_many fits c.loop-element.axis c.loop-element.kept c.loop-element.element-index c.loop-element.offset c.loop-element.is_empty (g.E.Dimension.lengths c.loop-element.dim) (g.E.Strides.StrideList.strides_of c.loop-element.strides) c.loop-element.invariant _ c.loop-element-test.true c.axis_by-after.result.len c.axis_by-after.result.offset c.none_left-is_empty.result c.axis_after-axis.result c.axis_by-after.ensures.len c.axis_by-after.ensures.offset c.axis_by-after.ensures.new c.axis_by-after.ensures.empty c.none_left-is_empty.ensures c.axis_after-axis.ensures (sym c.keeps_axis.ensures ∙ w.if-keeps_axis.false))
    ]

pub returns : goal.returns
returns g c =
    let fits = (and_parts (each_fits (g.D.Dimension.lengths c.args.self.now.dim) c.args.elements.now) (leb (axes_kept c.args.elements.now) 32) c.requires.fits).0 in
    let all = cut_all c.args.self.now.offset (g.D.Dimension.lengths c.args.self.now.dim) (g.T.StrideList.strides_of c.args.self.now.strides) c.args.elements.now c.args.self.now.as_many fits c.loop-element.axis c.loop-element.kept c.loop-element.element-index c.loop-element.offset c.loop-element.is_empty (g.E.Dimension.lengths c.loop-element.dim) (g.E.Strides.StrideList.strides_of c.loop-element.strides) c.loop-element.invariant (omega (arith, c.loop-element-test.false)) in
    record { lengths = all.0; step = all.1; strides = all.2; empty = c.loop-element.invariant.once.sliced.unmoved }

pub invariant_of-result : goal.invariant_of-result
invariant_of-result g c =
    let fits = (and_parts (each_fits (g.D.Dimension.lengths c.args.self.now.dim) c.args.elements.now) (leb (axes_kept c.args.elements.now) 32) c.requires.fits).0 in
    let step = (cut_all c.args.self.now.offset (g.D.Dimension.lengths c.args.self.now.dim) (g.T.StrideList.strides_of c.args.self.now.strides) c.args.elements.now c.args.self.now.as_many fits c.loop-element.axis c.loop-element.kept c.loop-element.element-index c.loop-element.offset c.loop-element.is_empty (g.E.Dimension.lengths c.loop-element.dim) (g.E.Strides.StrideList.strides_of c.loop-element.strides) c.loop-element.invariant (omega (arith, c.loop-element-test.false))).1 in
    record { as_many = step.as_many; spread = omega (arith, step.spread, c.args.self.now.spread); checked = step.checked c.args.self.now.checked; reach = step_reaches step c.args.self.now.reach }
