use Rattle.nd_array_core.proofs.NamesFromOtherCrates.{◌∙◌, shown_by}
use Rattle.nd_array_core.specs.ArrayMeaning.{meaning_of, memory_layout_of}
use Rattle.nd_array_core.proofs.reshape_lemmas.MemoryOrder.{run_has, run_lies}
use Rattle.nd_array_core.proofs.reshape_lemmas.ElementsInPlaceOrder.{memory_order_reorders}
use Rattle.nd_array_core.proofs.reshape.elements_as_slice.ArrayView+A+D.to_slice_memory_order.Goals as goal

pub run-requires : goal.run-requires
unfolding meaning_of memory_layout_of
run-requires g c =
    let array = c.args.self.now in
    let told = c.is_run.ensures.0 c.if-is_run.true in
    let which = rw (c.slice.ensures.lengths, c.slice-2.ensures) at told in
    rw (c.size.ensures, c.lowest_place-first.ensures)
    (run_has (shown_by array.storage) array.layout.offset (g.D.Dimension.lengths array.layout.dim) (g.D.Strides.StrideList.strides_of array.layout.strides) array.layout.as_many array.inside which)

pub returns-then-is_run-clause-elements : goal.returns-then-is_run-clause-elements
unfolding meaning_of memory_layout_of
returns-then-is_run-clause-elements g c =
    let array = c.args.self.now in
    let ns = g.D.Dimension.lengths array.layout.dim in
    let told = c.is_run.ensures.0 c.if-is_run.true in
    let which = rw (c.slice.ensures.lengths, c.slice-2.ensures) at told in
    let shown = c.run.ensures.elements in
    let held = rw (c.size.ensures, c.lowest_place-first.ensures) at shown in
    run_lies (shown_by array.storage) array.layout.offset ns (g.D.Strides.StrideList.strides_of array.layout.strides) array.layout.as_many array.inside which
    c.run.result.now (c.run.ensures.count ∙ c.size.ensures) held

pub returns-then-is_run-clause-reordered : goal.returns-then-is_run-clause-reordered
returns-then-is_run-clause-reordered g c = memory_order_reorders (meaning_of c.args.self.now) _ _ c.run.result.now (returns-then-is_run-clause-elements g c)
