use Rattle.nd_array_core.proofs.NamesFromOtherCrates.{refl, rules, written_element}
use Rattle.nd_array_core.specs.ArrayMeaning.{meaning_of, memory_layout_of}
use Rattle.nd_array_core.proofs.base.indexing_mut.ArrayBase+S+D.replace_at.Goals as goal

pub returns-clause-new : goal.returns-clause-new
unfolding meaning_of memory_layout_of
returns-clause-new g c =
    let array = c.args.self.now in
    let layout = array.layout in
    let strides = g.D.Strides.StrideList.strides_of layout.strides in (
      written_element (g.S.Data.stored array.storage) (g.S.Data.stored c.replace.new.self) (g.D.Dimension.lengths layout.dim) strides layout.offset c.args.index.now
          c.place_in_box-place.result c.args.value layout.as_many (array.separated g.met.S.DataMut.alone) c.requires c.place_in_box-place.ensures c.replace.ensures.new,
      (refl, refl, (λ i. refl), search rules, c.replace.ensures.frame, refl),
    )
