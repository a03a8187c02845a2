use Rattle.nd_array_core.proofs.NamesFromOtherCrates.{◌∙◌, RowMajor, found_by_rank, ordered_shows}
use Rattle.nd_array_core.specs.ArrayMeaning.{meaning_of}
use Rattle.nd_array_core.proofs.elements.to_owned.ordered_to_owned.Goals as goal

pub returns-clause-elements : goal.returns-clause-elements
unfolding meaning_of
returns-clause-elements g c i =
    let array = c.args.array.now in
    let items = c.of_items.ensures.stored ∙ c.in_ok-items.ensures.items in
    c.of_items.ensures.owns.4 i
    ∙ (λ k. found_by_rank (c.raw_dim.ensures k, RowMajor) (items k) i)
    ∙ ordered_shows (g.S.Data.stored array.storage) array.layout.offset (g.D.Dimension.lengths array.layout.dim) (g.D.Strides.StrideList.strides_of array.layout.strides) array.inside i
