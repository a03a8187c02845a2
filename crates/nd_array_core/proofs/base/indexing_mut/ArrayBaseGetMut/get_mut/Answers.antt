use Rattle.nd_array_core.proofs.NamesFromOtherCrates.{◌≡◌, true, pos, ◌∙◌, ap, sym, refl, fun_ext, nat_abs, place_of, in_box}
use mathlib.Core.Logic.{inl}
use Rattle.nd_array_core.specs.ArrayMeaning.{meaning_of}
use Rattle.nd_array_core.proofs.lending.ArrayAfterElementWrite.{with_element_is, is_written}
use Rattle.nd_array_core.proofs.base.indexing_mut.ArrayBaseGetMut.get_mut.Goals as goal

pub returns-in-Some : goal.returns-in-Some
unfolding meaning_of
returns-in-Some g c =
    let array = c.args.self.now in
    let layout = array.layout in
    let strides = g.D.Strides.StrideList.strides_of layout.strides in
    let lengths = g.D.Dimension.lengths layout.dim in
    let index = g.I.NdIndex.coordinates_of c.args.index in
    let within : in_box lengths index ≡ true = ap (in_box lengths) (sym (c.slice.ensures ∙ c.coordinates.ensures)) ∙ c.in-Some.ensures.0 in
    let at_place : pos c.in-Some.place ≡ place_of layout.offset strides index = c.in-Some.ensures.1 ∙ ap (place_of layout.offset strides) (c.slice.ensures ∙ c.coordinates.ensures) in (
      ap (λ f. inl (c.element_mut.result.ghost_name, f)) (fun_ext (λ w. with_element_is g.S.Data.with_element array c.in-Some.place index w _ (ap nat_abs at_place) refl refl)),
      record {
        writes_back = tt;
        element = rw (within, ← at_place) (sym c.element_mut.ensures.value);
        within = sym within;
        written = λ x. is_written g.S.Data.with_element g.S.DataMut.frame array index x g.met.S.DataMut.alone g.met.S.DataMut.element_written g.met.S.DataMut.element_frame within;
      },
    )
