use Rattle.nd_array_core.specs.ArrayMeaning.{meaning_of}
use Rattle.nd_array_core.proofs.NamesFromOtherCrates.{row_rank_below, elements_count}
use Rattle.nd_array_core.proofs.reshape_lemmas.ElementsListedInOrder.{listed_index}
use Rattle.nd_array_core.proofs.laws.elements_by_rank.Goals as goal

pub returns : goal.returns
unfolding meaning_of
returns g c =
    let array = c.args.array.now in
    record {
      count = elements_count (g.S.Data.stored array.storage) array.layout.offset (g.D.Dimension.lengths array.layout.dim) (g.D.Strides.StrideList.strides_of array.layout.strides) array.inside;
      below = λ i h. row_rank_below (g.D.Dimension.lengths c.args.array.now.layout.dim) i h;
      each = listed_index (g.S.Data.stored array.storage) array.layout.offset (g.D.Dimension.lengths array.layout.dim) (g.D.Strides.StrideList.strides_of array.layout.strides) array.inside;
    }
