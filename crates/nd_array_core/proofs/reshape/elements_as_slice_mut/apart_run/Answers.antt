use Rattle.nd_array_core.proofs.NamesFromOtherCrates.{region_stored}
use Rattle.nd_array_core.specs.ArrayMeaning.{meaning_of, memory_layout_of}
use Rattle.nd_array_core.proofs.lending.ArrayAfterRunLent.{run_there}
use Rattle.nd_array_core.proofs.reshape_lemmas.MemoryOrder.{run_lies}
use Rattle.nd_array_core.proofs.reshape.elements_as_slice_mut.apart_run.Goals as goal

pub returns-clause-there : goal.returns-clause-there
unfolding meaning_of memory_layout_of
returns-clause-there g c = λ asked. rw (c.lowest_place-first.ensures, c.size-count.ensures) (run_there c.args.view (c.has_run-asked.ensures.0 asked))

pub returns-clause-elements : goal.returns-clause-elements
unfolding meaning_of memory_layout_of
returns-clause-elements g c = λ asked xs is.
    let array = c.args.view in
    let values = rw (c.lowest_place-first.ensures, c.size-count.ensures) at is in
    run_lies (region_stored array.storage.region) array.layout.offset (g.D.Dimension.lengths array.layout.dim) (g.D.Strides.StrideList.strides_of array.layout.strides)
    array.layout.as_many array.inside (c.has_run-asked.ensures.0 asked) xs values.0 values.1
