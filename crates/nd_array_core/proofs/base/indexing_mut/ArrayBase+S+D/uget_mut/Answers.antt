use Rattle.nd_array_core.proofs.NamesFromOtherCrates.{◌≡◌, pos, ◌∙◌, ap, refl, nat_abs, place_of}
use Rattle.nd_array_core.specs.ArrayMeaning.{meaning_of}
use Rattle.nd_array_core.proofs.lending.ArrayAfterElementWrite.{with_element_is, is_written}
use Rattle.nd_array_core.proofs.base.indexing_mut.ArrayBase+S+D.uget_mut.Goals as goal

pub returns : goal.returns
unfolding meaning_of
returns g c =
    let array = c.args.self.now in
    let layout = array.layout in
    let strides = g.D.Strides.StrideList.strides_of layout.strides in
    let index = g.I.NdIndex.coordinates_of c.args.index in
    let at_place : pos c.place_in_box-place.result ≡ place_of layout.offset strides index = c.place_in_box-place.ensures ∙ ap (place_of layout.offset strides) (c.slice.ensures ∙ c.coordinates.ensures) in (
      (refl, λ w. with_element_is g.S.Data.with_element array c.place_in_box-place.result index w _ (ap nat_abs at_place) refl refl),
      record { writes_back = tt; value = rw (c.requires, ← at_place) c.element_mut.ensures.value; written = λ x. is_written g.S.Data.with_element g.S.DataMut.frame array index x g.met.S.DataMut.alone g.met.S.DataMut.element_written g.met.S.DataMut.element_frame c.requires },
    )
