use Rattle.nd_shape_and_slice.proofs.NamesFromOtherCrates.{◌∙◌, arith}
use Rattle.nd_shape_and_slice.proofs.SliceLists.{next_axis-reads, fit_all, fit_more, unfit}
use Rattle.nd_shape_and_slice.proofs.slice_info.elements_fit.Goals as goal

pub returns : goal.returns
returns c = fit_all c.args.lengths.now c.args.elements.now c.loop-element.axis c.loop-element.element-index (omega arith) c.loop-element.invariant

pub loop-element-preserved : goal.loop-element-preserved
loop-element-preserved c =
    fit_more c.args.lengths.now c.args.elements.now c.loop-element.axis c.loop-element.element-index c.axis_after-axis.result _ c.length_of.result c.element_fits.result (omega arith) c.loop-element.invariant c.length_of.ensures c.element_fits.ensures c.if-not-element_fits.false (c.axis_after-axis.ensures ∙ next_axis-reads _ _)

pub returns-then-not-element_fits : goal.returns-then-not-element_fits
returns-then-not-element_fits c =
    unfit c.args.lengths.now c.args.elements.now c.loop-element.axis c.loop-element.element-index _ c.length_of.result c.element_fits.result (omega arith) c.loop-element.invariant c.length_of.ensures c.element_fits.ensures c.if-not-element_fits.true
