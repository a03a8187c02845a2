use Rattle.nd_array_core.specs.ArrayMeaning.{meaning_of, memory_layout_of}
use Rattle.nd_array_core.proofs.law_lemmas.PlaceLaws.{in_box_has_place, shows_stored}
use Rattle.nd_array_core.proofs.laws.elements_have_places.Goals as goal

pub returns : goal.returns
unfolding meaning_of memory_layout_of
returns g c =
    record {
      places = let layout = c.args.array.now.layout in
          in_box_has_place layout.offset (g.D.Dimension.lengths layout.dim) (g.D.Strides.StrideList.strides_of layout.strides) layout.reach;
      elements = let array = c.args.array.now in
          let layout = array.layout in
          shows_stored layout.offset (g.D.Dimension.lengths layout.dim) (g.D.Strides.StrideList.strides_of layout.strides) (g.S.Data.stored array.storage);
    }
