use Rattle.nd_array_core.proofs.NamesFromOtherCrates.{◌∙◌, ap, sym, length, size_of, elements_count}
use Rattle.nd_array_core.specs.ArrayMeaning.{meaning_of}
use Rattle.nd_array_core.proofs.elements.eq.elements_equal.Goals as goal

pub equal_slice-requires : goal.equal_slice-requires
unfolding meaning_of
equal_slice-requires g c =
    let a = c.args.a.now in
    let b = c.args.b.now in
    ap length c.in-Some-Some.ensures'.elements
    ∙ elements_count (g.S.Data.stored b.storage) b.layout.offset (g.D.Dimension.lengths b.layout.dim) (g.D.Strides.StrideList.strides_of b.layout.strides) b.inside
    ∙ ap size_of c.requires
    ∙ sym
    (ap length c.in-Some-Some.ensures.elements
    ∙ elements_count (g.S.Data.stored a.storage) a.layout.offset (g.D.Dimension.lengths a.layout.dim) (g.D.Strides.StrideList.strides_of a.layout.strides) a.inside)
