use Rattle.nd_array_core.proofs.NamesFromOtherCrates.{◌∙◌, ap, refl, rules, place_of, swapped_element}
use Rattle.nd_array_core.specs.ArrayMeaning.{meaning_of, memory_layout_of}
use Rattle.nd_array_core.proofs.base.indexing_mut.ArrayBase+S+D.swap.Goals as goal

pub returns : goal.returns
unfolding meaning_of memory_layout_of
returns g c =
    let array = c.args.self.now in
    let layout = array.layout in
    let strides = g.D.Strides.StrideList.strides_of layout.strides in record {
      new = (
        swapped_element (g.S.Data.stored array.storage) (g.S.Data.stored c.swap.new.self) (g.D.Dimension.lengths layout.dim) strides layout.offset (g.I.NdIndex.coordinates_of c.args.a) (g.I.NdIndex.coordinates_of c.args.b)
            c.place_in_box-p.result c.place_in_box-q.result layout.as_many (array.separated g.met.S.DataMut.alone) c.requires.a c.requires.b
            (c.place_in_box-p.ensures ∙ ap (place_of layout.offset strides) (c.slice.ensures ∙ c.coordinates.ensures)) (c.place_in_box-q.ensures ∙ ap (place_of layout.offset strides) (c.slice-2.ensures ∙ c.coordinates-2.ensures)) c.swap.ensures.new,
        (refl, refl, (λ i. refl), search rules, c.swap.ensures.frame, refl),
      );
    }
