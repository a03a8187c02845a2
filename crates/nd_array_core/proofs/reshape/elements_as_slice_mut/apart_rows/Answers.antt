use Rattle.nd_array_core.proofs.NamesFromOtherCrates.{region_stored}
use Rattle.nd_array_core.specs.ArrayMeaning.{meaning_of, memory_layout_of}
use Rattle.nd_array_core.proofs.lending.ArrayAfterRunLent.{standard_there}
use Rattle.nd_array_core.proofs.reshape_lemmas.RunElements.{standard_elements}
use Rattle.nd_array_core.proofs.reshape.elements_as_slice_mut.apart_rows.Goals as goal

pub returns-clause-there : goal.returns-clause-there
unfolding meaning_of memory_layout_of
returns-clause-there g c = λ asked. rw c.size-count.ensures (standard_there c.args.view (c.is_standard_layout-asked.ensures.0 asked))

pub returns-clause-elements : goal.returns-clause-elements
unfolding meaning_of memory_layout_of
returns-clause-elements g c = λ asked xs is.
    let array = c.args.view in
    let values = rw c.size-count.ensures at is in
    standard_elements (region_stored array.storage.region) array.layout.offset (g.D.Dimension.lengths array.layout.dim) (g.D.Strides.StrideList.strides_of array.layout.strides)
    (c.is_standard_layout-asked.ensures.0 asked) xs values.0 values.1
