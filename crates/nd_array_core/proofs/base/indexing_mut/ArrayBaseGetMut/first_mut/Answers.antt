use Rattle.nd_array_core.proofs.NamesFromOtherCrates.{ap, sym, refl, fun_ext, nat_abs, first_index}
use mathlib.Core.Logic.{inl}
use Rattle.nd_array_core.specs.ArrayMeaning.{meaning_of}
use Rattle.nd_array_core.proofs.lending.ArrayAfterElementWrite.{with_element_is, is_written}
use Rattle.nd_array_core.proofs.base.indexing_mut.ArrayBaseGetMut.first_mut.Goals as goal

pub returns-in-Some : goal.returns-in-Some
unfolding meaning_of
returns-in-Some g c =
    let array = c.args.self.now in
    let index = first_index (g.D.Dimension.lengths array.layout.dim) in
    let within = c.in-Some.ensures.place.0 in
    let at_place = c.in-Some.ensures.place.1 in (
      ap (λ f. inl (c.element_mut.result.ghost_name, f)) (fun_ext (λ w. with_element_is g.S.Data.with_element array c.in-Some.first index w _ (ap nat_abs at_place) refl refl)),
      record {
        writes_back = tt;
        element = rw (within, ← at_place) (sym c.element_mut.ensures.value);
        none = c.in-Some.ensures.none;
        written = λ x. is_written g.S.Data.with_element g.S.DataMut.frame array index x g.met.S.DataMut.alone g.met.S.DataMut.element_written g.met.S.DataMut.element_frame within;
      },
    )
