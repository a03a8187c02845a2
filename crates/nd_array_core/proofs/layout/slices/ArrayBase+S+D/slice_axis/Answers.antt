use Rattle.nd_array_core.proofs.NamesFromOtherCrates.{sliced_shape, sliced_index, sliced_strides}
use Rattle.nd_array_core.proofs.layout_lemmas.PartOfWholeView.{shown_through}
use Rattle.nd_array_core.proofs.layout.slices.ArrayBase+S+D.slice_axis.Goals as goal

pub slice_axis_inplace-requires-clause-axis : goal.slice_axis_inplace-requires-clause-axis
slice_axis_inplace-requires-clause-axis g c = rw c.view-view.ensures.whole.0 c.requires.axis

pub slice_axis_inplace-requires-clause-fits : goal.slice_axis_inplace-requires-clause-fits
slice_axis_inplace-requires-clause-fits g c = rw c.view-view.ensures.whole.0 c.requires.fits

pub returns : goal.returns
returns g c =
    let axis = c.args.axis.0 in let slice = c.args.slice in record {
      part = shown_through (λ ns ss. record { part_shape = sliced_shape ns axis slice; part_strides = sliced_strides ns ss axis slice; index_named = sliced_index ns axis slice }) c.view-view.ensures.whole c.slice_axis_inplace.ensures.part.0;
    }
