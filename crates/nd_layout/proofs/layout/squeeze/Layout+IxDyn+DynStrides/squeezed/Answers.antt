use Rattle.nd_layout.proofs.NamesFromOtherCrates.{◌-◌, arith}
use Rattle.nd_layout.proofs.steps.SqueezeStep.{from_axis, squeezed_none, squeezed_on, squeezed_more}
use Rattle.nd_layout.proofs.layout.squeeze.Layout+IxDyn+DynStrides.squeezed.Goals as goal

pub loop-axis-init : goal.loop-axis-init
loop-axis-init c =
    squeezed_none _ _ _ c.ndim-axis.result _ _ _ c.args.self.now.as_many c.ndim-axis.ensures.value c.copied-layout.ensures.offset c.copied-layout.ensures.lengths c.copied-layout.ensures.strides

pub squeezed_at-layout-requires : goal.squeezed_at-layout-requires
squeezed_at-layout-requires c =
    squeezed_on _ _ _ (c.loop-axis.axis - 1) _ _ _ (from_axis (omega (arith, c.loop-axis-test.true)) c.loop-axis.invariant)

pub loop-axis-preserved : goal.loop-axis-preserved
loop-axis-preserved c =
    let at = c.squeezed_at-layout.ensures in
    squeezed_more _ _ _ (c.loop-axis.axis - 1) _ _ _ (from_axis (omega (arith, c.loop-axis-test.true)) c.loop-axis.invariant) _ _ _ at.lengths at.strides at.offset at.step

pub returns : goal.returns
returns c =
    let all = from_axis {k = 0} (omega (arith, c.loop-axis-test.false)) c.loop-axis.invariant in
    record { lengths = all.lengths; step = all.step; strides = all.strides; offset = all.unmoved }
