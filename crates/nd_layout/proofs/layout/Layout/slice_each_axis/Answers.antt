use Rattle.nd_layout.proofs.NamesFromOtherCrates.{arith, sym, w64, to_z-of_z}
use Rattle.std.proofs.lemmas.Grind.{common_steps}
use Rattle.nd_layout.proofs.steps.SliceEachAxisLoop.{each_none, each_on, each_fits_axis, each_more, each_all}
use Rattle.nd_layout.proofs.layout.Layout.slice_each_axis.Goals as goal

pub loop-axis-init : goal.loop-axis-init
loop-axis-init g c =
    rw (c.copied-before.ensures.offset, c.copied-before.ensures.lengths, c.copied-before.ensures.strides)
    (each_none _ _ c.args.f c.args.self.now.offset (g.D.Dimension.lengths c.args.self.now.dim) (g.T.StrideList.strides_of c.args.self.now.strides) c.args.self.now.as_many c.requires)

pub slice_axis-requires-clause-on : goal.slice_axis-requires-clause-on
slice_axis-requires-clause-on g c = each_on _ _ c.args.f c.copied-before.result.offset (g.D.Dimension.lengths c.copied-before.result.dim) (g.T.StrideList.strides_of c.copied-before.result.strides) c.copied-before.result.as_many c.loop-axis.axis c.loop-axis.f c.loop-axis.self.offset (g.D.Dimension.lengths c.loop-axis.self.dim) (g.T.StrideList.strides_of c.loop-axis.self.strides) c.loop-axis.invariant (omega (arith, c.loop-axis-test.true, c.ndim-axis-end.ensures.value))

pub slice_axis-requires-clause-fits : goal.slice_axis-requires-clause-fits
slice_axis-requires-clause-fits g c =
    let answered = rw (c.length_at.ensures, to_z-of_z w64 c.stride_at.result (record { sfits = c.stride_at.type_inv }), c.stride_at.ensures, c.slice.ensures.lengths, c.slice-in-loop-axis.ensures) at c.f-slice.ensures in
    each_fits_axis _ _ c.args.f c.copied-before.result.offset (g.D.Dimension.lengths c.copied-before.result.dim) (g.T.StrideList.strides_of c.copied-before.result.strides) c.copied-before.result.as_many c.loop-axis.axis c.loop-axis.f c.loop-axis.self.offset (g.D.Dimension.lengths c.loop-axis.self.dim) (g.T.StrideList.strides_of c.loop-axis.self.strides) c.loop-axis.invariant (omega (arith, c.loop-axis-test.true, c.ndim-axis-end.ensures.value)) c.f-slice.result c.f-slice.new.self answered

pub loop-axis-preserved : goal.loop-axis-preserved
loop-axis-preserved g c =
    let answered = rw (c.length_at.ensures, to_z-of_z w64 c.stride_at.result (record { sfits = c.stride_at.type_inv }), c.stride_at.ensures, c.slice.ensures.lengths, c.slice-in-loop-axis.ensures) at c.f-slice.ensures in
    each_more _ _ c.args.f c.copied-before.result.offset (g.D.Dimension.lengths c.copied-before.result.dim) (g.T.StrideList.strides_of c.copied-before.result.strides) c.copied-before.result.as_many c.loop-axis.axis c.loop-axis.f c.loop-axis.self.offset (g.D.Dimension.lengths c.loop-axis.self.dim) (g.T.StrideList.strides_of c.loop-axis.self.strides) c.loop-axis.invariant (omega (arith, c.loop-axis-test.true, c.ndim-axis-end.ensures.value)) c.f-slice.result c.f-slice.new.self answered c.slice_axis.new.self.offset (g.D.Dimension.lengths c.slice_axis.new.self.dim) (g.T.StrideList.strides_of c.slice_axis.new.self.strides) c.slice_axis.ensures.lengths c.slice_axis.ensures.strides c.slice_axis.ensures.empty c.slice_axis.ensures.step

pub returns-clause-sliced : goal.returns-clause-sliced
returns-clause-sliced g c =
    rw (sym c.copied-before.ensures.offset, sym c.copied-before.ensures.lengths, sym c.copied-before.ensures.strides)
    (each_all _ _ c.args.f c.copied-before.result.offset (g.D.Dimension.lengths c.copied-before.result.dim) (g.T.StrideList.strides_of c.copied-before.result.strides) c.copied-before.result.as_many c.loop-axis.axis c.loop-axis.f c.loop-axis.self.offset (g.D.Dimension.lengths c.loop-axis.self.dim) (g.T.StrideList.strides_of c.loop-axis.self.strides) c.loop-axis.invariant (omega (arith, c.loop-axis-test.false, c.ndim-axis-end.ensures.value)))

pub returns-clause-empty : goal.returns-clause-empty
returns-clause-empty g c = rw (sym c.copied-before.ensures.offset, sym c.copied-before.ensures.lengths) c.loop-axis.invariant.unmoved

pub f-slice-requires : goal.f-slice-requires
f-slice-requires g c = grind (arith, common_steps)
