use Rattle.nd_elements.proofs.NamesFromOtherCrates.{◌≡◌, ◌-◌, size_of, place_at_rank}
use Rattle.nd_elements.specs.elements.ElementChanges.{IsRewrittenTo}
use Rattle.nd_array_core.proofs.elements_lemmas.IndexedChanges.{call}
use Rattle.nd_array_core.proofs.elements.indexed_map_inplace.change_by_index.Given as goal

abbrev pub invariant-loop-place : goal.invariant-loop-place
invariant-loop-place g l =
    let layout = l.fn.layout in
    let ns = g.D.Dimension.lengths layout.dim in
    let ss = g.T.StrideList.strides_of layout.strides in
    ((l.walk.first.value ≡ layout.offset) × (l.walk.lengths.now ≡ ns) × (l.walk.strides.now ≡ ss))
    × IsRewrittenTo (call g.F.FnMut g.D.IntoPattern.pattern_lengths layout.offset ns ss) (place_at_rank layout.offset ns ss) l.walk.rank (g.S.Data.stored l.fn.storage) (g.S.Data.stored l.storage) l.fn.f l.now
    × (g.S.DataMut.frame l.storage ≡ g.S.DataMut.frame l.fn.storage)

abbrev pub decreases-loop-place : goal.decreases-loop-place
decreases-loop-place g l = size_of l.walk.lengths.now - l.walk.rank
