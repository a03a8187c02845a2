use Rattle.nd_array_core.specs.ArrayMeaning.{meaning_of}
use Rattle.nd_array_core.proofs.elements_lemmas.LackOfMemory.{refused_some}
use Rattle.nd_array_core.proofs.elements.to_vec.listed_after.Goals as goal

pub returns-in-Err-clause-refused : goal.returns-in-Err-clause-refused
unfolding meaning_of
returns-in-Err-clause-refused g c =
    let array = c.args.array.now in
    refused_some g.S.Elem.Clone.is_infallible (g.S.Data.stored array.storage) array.layout.offset (g.D.Dimension.lengths array.layout.dim) (g.D.Strides.StrideList.strides_of array.layout.strides) c.in-Err.ensures.refused
