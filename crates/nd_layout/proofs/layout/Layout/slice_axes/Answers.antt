use Rattle.nd_layout.proofs.NamesFromOtherCrates.{◌+◌, arith, sym, subst}
use Rattle.nd_layout.proofs.steps.SliceLoop.{IsSlicedTo, sliced_none, sliced_fits, sliced_more, sliced_all, sliced_all_shape, sliced_all_strides}
use Rattle.nd_layout.proofs.layout.Layout.slice_axes.Goals as goal

pub loop-element-init : goal.loop-element-init
loop-element-init g c =
    sliced_none c.args.self.now.offset (g.D.Dimension.lengths c.args.self.now.dim) (g.T.StrideList.strides_of c.args.self.now.strides) c.args.elements.now c.args.self.now.as_many c.requires

pub axis_after-axis-requires : goal.axis_after-axis-requires
axis_after-axis-requires g c = omega (arith, c.loop-element.invariant.few, c.loop-element-test.true)

pub loop-element-preserved : goal.loop-element-preserved
loop-element-preserved g c =
    subst (λ a. IsSlicedTo c.args.self.now.offset (g.D.Dimension.lengths c.args.self.now.dim) (g.T.StrideList.strides_of c.args.self.now.strides) c.args.elements.now a (c.loop-element.element-index + 1) c.slice_element.new.self.offset (g.D.Dimension.lengths c.slice_element.new.self.dim) (g.T.StrideList.strides_of c.slice_element.new.self.strides)) (sym c.axis_after-axis.ensures)
    (sliced_more c.args.self.now.offset (g.D.Dimension.lengths c.args.self.now.dim) (g.T.StrideList.strides_of c.args.self.now.strides) c.args.elements.now c.loop-element.axis c.loop-element.element-index c.loop-element.self.offset (g.D.Dimension.lengths c.loop-element.self.dim) (g.T.StrideList.strides_of c.loop-element.self.strides) c.loop-element.invariant _ c.loop-element-test.true c.slice_element.new.self.offset (g.D.Dimension.lengths c.slice_element.new.self.dim) (g.T.StrideList.strides_of c.slice_element.new.self.strides) c.slice_element.ensures.lengths c.slice_element.ensures.strides c.slice_element.ensures.empty c.slice_element.ensures.step)

pub returns : goal.returns
returns g c = record {
  lengths = sliced_all_shape c.args.self.now.offset (g.D.Dimension.lengths c.args.self.now.dim) (g.T.StrideList.strides_of c.args.self.now.strides) c.args.elements.now c.loop-element.axis c.loop-element.element-index c.loop-element.self.offset (g.D.Dimension.lengths c.loop-element.self.dim) (g.T.StrideList.strides_of c.loop-element.self.strides) c.loop-element.invariant (omega (arith, c.loop-element-test.false));
  step = sliced_all c.args.self.now.offset (g.D.Dimension.lengths c.args.self.now.dim) (g.T.StrideList.strides_of c.args.self.now.strides) c.args.elements.now c.loop-element.axis c.loop-element.element-index c.loop-element.self.offset (g.D.Dimension.lengths c.loop-element.self.dim) (g.T.StrideList.strides_of c.loop-element.self.strides) c.loop-element.invariant (omega (arith, c.loop-element-test.false));
  strides = sliced_all_strides c.args.self.now.offset (g.D.Dimension.lengths c.args.self.now.dim) (g.T.StrideList.strides_of c.args.self.now.strides) c.args.elements.now c.loop-element.axis c.loop-element.element-index c.loop-element.self.offset (g.D.Dimension.lengths c.loop-element.self.dim) (g.T.StrideList.strides_of c.loop-element.self.strides) c.loop-element.invariant (omega (arith, c.loop-element-test.false));
  empty = c.loop-element.invariant.unmoved;
}

pub slice_element-requires : goal.slice_element-requires
slice_element-requires g c =
    sliced_fits c.args.self.now.offset (g.D.Dimension.lengths c.args.self.now.dim) (g.T.StrideList.strides_of c.args.self.now.strides) c.args.elements.now c.loop-element.axis c.loop-element.element-index c.loop-element.self.offset (g.D.Dimension.lengths c.loop-element.self.dim) (g.T.StrideList.strides_of c.loop-element.self.strides) c.loop-element.invariant _ c.loop-element-test.true
