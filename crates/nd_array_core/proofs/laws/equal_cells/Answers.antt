use Rattle.nd_array_core.proofs.NamesFromOtherCrates.{place_of, stored_at}
use Rattle.nd_array_core.specs.ArrayMeaning.{meaning_of}
use Rattle.nd_array_core.proofs.law_lemmas.EqualCells.{cells_of_equal, equal_of_cells}
use Rattle.nd_array_core.proofs.laws.equal_cells.Goals as goal

pub returns : goal.returns
unfolding meaning_of
returns g c rows columns two =
    let a = c.args.one.now in
    let b = c.args.other.now in
    let ns = g.D.Dimension.lengths a.layout.dim in
    let ms = g.D.Dimension.lengths b.layout.dim in (
      cells_of_equal g.S.Elem.PartialEq.eq c.requires ns ms (λ i. stored_at (g.S.Data.stored a.storage) (place_of a.layout.offset (g.D.Strides.StrideList.strides_of a.layout.strides) i)) (λ i. stored_at (g.S.Data.stored b.storage) (place_of b.layout.offset (g.D.Strides.StrideList.strides_of b.layout.strides) i)) a.inside b.inside rows columns two,
      equal_of_cells g.S.Elem.PartialEq.eq c.requires ns ms (λ i. stored_at (g.S.Data.stored a.storage) (place_of a.layout.offset (g.D.Strides.StrideList.strides_of a.layout.strides) i)) (λ i. stored_at (g.S.Data.stored b.storage) (place_of b.layout.offset (g.D.Strides.StrideList.strides_of b.layout.strides) i)) a.inside b.inside rows columns two,
    )
