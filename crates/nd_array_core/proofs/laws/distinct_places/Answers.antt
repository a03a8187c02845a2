use Rattle.nd_array_core.specs.ArrayMeaning.{memory_layout_of}
use Rattle.nd_array_core.proofs.law_lemmas.PlaceLaws.{places_differ}
use Rattle.nd_array_core.proofs.laws.distinct_places.Goals as goal

pub returns : goal.returns
unfolding memory_layout_of
returns g c =
    let array = c.args.array.now in
    let layout = array.layout in
    places_differ layout.offset (g.D.Dimension.lengths layout.dim) (g.D.Strides.StrideList.strides_of layout.strides) layout.as_many (array.separated g.met.S.DataMut.alone)
