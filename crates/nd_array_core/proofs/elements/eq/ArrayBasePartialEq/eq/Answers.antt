use Rattle.nd_array_core.specs.ArrayMeaning.{meaning_of}
use Rattle.nd_array_core.proofs.NamesFromOtherCrates.{equal_everywhere}
use Rattle.nd_array_core.proofs.elements.eq.ArrayBasePartialEq.eq.Goals as goal

pub returns-clause-everywhere : goal.returns-clause-everywhere
unfolding meaning_of
returns-clause-everywhere g c =
    let a = c.args.self.now in
    let b = c.args.other.now in
    equal_everywhere g.S.Elem.PartialEq.eq (g.S.Data.stored a.storage) (g.S.Data.stored b.storage) a.layout.offset b.layout.offset
    (g.D.Dimension.lengths a.layout.dim) (g.D.Dimension.lengths b.layout.dim) (g.D.Strides.StrideList.strides_of a.layout.strides) (g.D.Strides.StrideList.strides_of b.layout.strides)
    a.inside b.inside c.arrays_equal.result c.arrays_equal.ensures
