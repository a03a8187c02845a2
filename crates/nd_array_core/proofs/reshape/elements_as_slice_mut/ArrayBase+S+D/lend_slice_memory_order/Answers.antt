use Rattle.nd_array_core.proofs.NamesFromOtherCrates.{◌≡◌, ◌-◌, true, false, length, sym, refl, subst, ◌∙◌, size_of, reach_down, IsRunAt}
use Rattle.nd_array_core.specs.ArrayMeaning.{meaning_of, memory_layout_of}
use Rattle.nd_array_core.proofs.lending.ArrayAfterElementWrite.{with_lent_is}
use Rattle.nd_array_core.proofs.lending.ArrayAfterRunLent.{all_or_none, empty_list, run_there, lent_by_place, lent_nothing, run_read}
use Rattle.nd_array_core.proofs.reshape_lemmas.MemoryOrder.{run_lies}
use Rattle.nd_array_core.proofs.reshape.elements_as_slice_mut.ArrayBase+S+D.lend_slice_memory_order.Goals as goal

pub lend_run-requires : goal.lend_run-requires
unfolding meaning_of memory_layout_of
lend_run-requires g c =
    let array = c.args.self.now in
    rw c.lowest_place-first.ensures (
    all_or_none (g.S.Data.stored array.storage) (array.layout.offset - reach_down (g.D.Dimension.lengths array.layout.dim) (g.D.Strides.StrideList.strides_of array.layout.strides)) (size_of (g.D.Dimension.lengths array.layout.dim)) c.count_if-count.result c.has_run-asked.result
    (λ yes. run_there array (c.has_run-asked.ensures.0 yes))
    (λ yes. c.count_if-count.ensures.all yes ∙ c.size.ensures)
    c.count_if-count.ensures.none
    )

pub returns : goal.returns
unfolding meaning_of memory_layout_of
returns g c =
    let array = c.args.self.now in
    let ns = g.D.Dimension.lengths array.layout.dim in
    let ss = g.D.Strides.StrideList.strides_of array.layout.strides in
    let stored = g.S.Data.stored array.storage in
    let first = array.layout.offset - reach_down ns ss in
    let xs = c.lend_run.result.now in
    let asked = c.has_run-asked in
    let count = c.count_if-count in
    let values : IsRunAt stored first count.result xs = rw c.lowest_place-first.ensures at c.lend_run.ensures.values in
    let all : asked.result ≡ true → IsRunAt stored first (size_of ns) xs = λ yes. subst (λ m. IsRunAt stored first m xs) (count.ensures.all yes ∙ c.size.ensures) values in
    let none : asked.result ≡ false → length xs ≡ 0 = λ no. values.0 ∙ count.ensures.none no in (
      (refl, λ w. with_lent_is g.S.Data.with_run array first c.lowest_place-first.result count.result xs w _ c.lowest_place-first.ensures values.0 refl refl),
      record {
        writes_back = tt;
        run = asked.ensures;
        elements = λ yes. run_lies stored array.layout.offset ns ss array.layout.as_many array.inside (asked.ensures.0 yes) xs (all yes).0 (run_read stored first (size_of ns) xs (all yes).0 (λ k below. sym ((all yes).1 k below)));
        none = λ no. empty_list xs (none no);
        written = λ yes ws long. lent_by_place g.S.Data.with_run g.S.DataMut.frame g.met.S.DataMut.run_written g.met.S.DataMut.run_left g.met.S.DataMut.run_frame array xs ws (asked.ensures.0 yes) (all yes).0 long;
        unwritten = λ no ws long. lent_nothing g.S.Data.with_run g.S.DataMut.frame g.met.S.DataMut.run_written g.met.S.DataMut.run_left g.met.S.DataMut.run_frame array first xs ws (none no) long;
      },
    )
