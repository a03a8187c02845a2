use Rattle.nd_array_core.specs.ArrayMeaning.{meaning_of, memory_layout_of}
use Rattle.nd_array_core.proofs.law_lemmas.StandardLayoutByPlaces.{lies_by_rank, is_standard}
use Rattle.nd_array_core.proofs.laws.standard_by_places.Goals as goal

pub returns : goal.returns
unfolding meaning_of memory_layout_of
returns g c =
    let array = c.args.array.now in
    let ns = g.D.Dimension.lengths array.layout.dim in
    let ss = g.D.Strides.StrideList.strides_of array.layout.strides in
    let stored = g.S.Data.stored array.storage in
    (lies_by_rank stored array.layout.offset ns ss, is_standard stored array.layout.offset ns ss array.inside)
