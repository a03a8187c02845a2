use Rattle.nd_array_core.proofs.NamesFromOtherCrates.{sym, refl, size_of, IsRunAt}
use Rattle.nd_array_core.specs.ArrayMeaning.{meaning_of, memory_layout_of}
use Rattle.nd_array_core.proofs.lending.ArrayAfterElementWrite.{with_run_is}
use Rattle.nd_array_core.proofs.lending.ArrayAfterRunLent.{standard_there, rewritten_by_rank, run_read}
use Rattle.nd_array_core.proofs.reshape_lemmas.RunElements.{standard_elements}
use Rattle.nd_array_core.proofs.reshape.elements_as_slice_mut.ArrayBase+S+D.elements_mut.Goals as goal

pub lend_run-requires : goal.lend_run-requires
unfolding meaning_of memory_layout_of
lend_run-requires g c = rw c.size-count.ensures (standard_there c.args.self.now c.requires)

pub returns : goal.returns
unfolding meaning_of memory_layout_of
returns g c =
    let array = c.args.self.now in
    let ns = g.D.Dimension.lengths array.layout.dim in
    let ss = g.D.Strides.StrideList.strides_of array.layout.strides in
    let stored = g.S.Data.stored array.storage in
    let first = array.layout.offset in
    let xs = c.lend_run.result.now in
    let values : IsRunAt stored first (size_of ns) xs = rw c.size-count.ensures at c.lend_run.ensures.values in (
      (refl, λ w. with_run_is g.S.Data.with_run array first first c.size-count.result w _ refl c.size-count.ensures refl refl),
      record {
        writes_back = tt;
        elements = standard_elements stored first ns ss c.requires xs values.0 (run_read stored first (size_of ns) xs values.0 (λ k below. sym (values.1 k below)));
        written = λ ws long. rewritten_by_rank g.S.Data.with_run g.S.DataMut.frame g.met.S.DataMut.run_written g.met.S.DataMut.run_left g.met.S.DataMut.run_frame array ws c.requires long;
      },
    )
