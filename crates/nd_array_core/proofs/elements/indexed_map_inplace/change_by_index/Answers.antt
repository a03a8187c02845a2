use Rattle.nd_elements.proofs.NamesFromOtherCrates.{◌≡◌, ◌+◌, ◌<◌, ◌∙◌, length, pos, ap, sym, subst, arith, size_of, index_at, in_box-index_at, length-in_box, place_at_rank}
use Rattle.nd_elements.specs.elements.ElementChanges.{IsRewrittenTo}
use Rattle.nd_array_core.proofs.elements_lemmas.IndexedChanges.{call, indexed_more, next_indexed, still_indexed}
use Rattle.nd_array_core.proofs.elements.indexed_map_inplace.change_by_index.Goals as goal

pub index_with-index-requires : goal.index_with-index-requires
index_with-index-requires g c =
    let so_far = c.loop-place.invariant in
    let ns = g.D.Dimension.lengths c.args.layout.now.dim in
    let k = c.loop-place.walk.rank in
    let below : k < size_of ns = subst (λ l. k < size_of l) so_far.0.1 c.in-Some.ensures.0 in
    let long : length c.index.result.now ≡ length ns = ap length (c.index.ensures c.in-Some.ensures.0 ∙ ap (λ l. index_at l k) so_far.0.1) ∙ length-in_box ns (index_at ns k) (in_box-index_at ns k below) in
    ap g.D.Dimension.has_axes (long ∙ ap length (sym c.slice.ensures.lengths)) ∙ c.slice.ensures.number

pub change_with_index-now-requires-clause-holds : goal.change_with_index-now-requires-clause-holds
change_with_index-now-requires-clause-holds g c =
    let so_far = c.loop-place.invariant in
    let layout = c.args.layout.now in
    let ns = g.D.Dimension.lengths layout.dim in
    let ss = g.T.StrideList.strides_of layout.strides in
    let k = c.loop-place.walk.rank in
    let below : k < size_of ns = subst (λ l. k < size_of l) so_far.0.1 c.in-Some.ensures.0 in
    let lies : pos c.in-Some.place ≡ place_at_rank layout.offset ns ss k = c.in-Some.ensures.1 ∙ (λ i. place_at_rank (so_far.0.0 i) (so_far.0.1 i) (so_far.0.2 i) k) in
    still_indexed g.F.FnMut g.D.IntoPattern.pattern_lengths layout.offset ns ss (g.S.Data.stored c.args.storage.now) (g.S.Data.stored c.loop-place.storage) c.args.f c.loop-place.now k c.in-Some.place below c.requires.apart lies so_far.1 c.requires.holds

pub change_with_index-now-requires-clause-callable : goal.change_with_index-now-requires-clause-callable
change_with_index-now-requires-clause-callable g c =
    let so_far = c.loop-place.invariant in
    let layout = c.args.layout.now in
    let ns = g.D.Dimension.lengths layout.dim in
    let ss = g.T.StrideList.strides_of layout.strides in
    let k = c.loop-place.walk.rank in
    let below : k < size_of ns = subst (λ l. k < size_of l) so_far.0.1 c.in-Some.ensures.0 in
    let lies : pos c.in-Some.place ≡ place_at_rank layout.offset ns ss k = c.in-Some.ensures.1 ∙ (λ i. place_at_rank (so_far.0.0 i) (so_far.0.1 i) (so_far.0.2 i) k) in
    next_indexed g.F.FnMut g.D.IntoPattern.pattern_lengths layout.offset ns ss (g.S.Data.stored c.args.storage.now) (g.S.Data.stored c.loop-place.storage) c.args.f c.loop-place.now k c.in-Some.place below c.requires.apart lies so_far.1
    c.requires.callable c.index_with-index.result (c.index_with-index.ensures ∙ (c.index.ensures c.in-Some.ensures.0 ∙ ap (λ l. index_at l k) so_far.0.1))

pub loop-place-preserved : goal.loop-place-preserved
loop-place-preserved g c =
    let so_far = c.loop-place.invariant in
    let layout = c.args.layout.now in
    let ns = g.D.Dimension.lengths layout.dim in
    let ss = g.T.StrideList.strides_of layout.strides in
    let walk = c.loop-place.walk in
    let k = walk.rank in
    let old = g.S.Data.stored c.args.storage.now in
    let new = g.S.Data.stored c.change_with_index-now.new.storage in
    let below : k < size_of ns = subst (λ l. k < size_of l) so_far.0.1 c.in-Some.ensures.0 in
    let lies : pos c.in-Some.place ≡ place_at_rank layout.offset ns ss k = c.in-Some.ensures.1 ∙ (λ i. place_at_rank (so_far.0.0 i) (so_far.0.1 i) (so_far.0.2 i) k) in
    let on : c.advance.new.self.rank ≡ k + 1 = omega (arith, c.advance.ensures.rank, c.in-Some.ensures.0) in
    let over = c.advance.ensures.over in (
      (over.0 ∙ so_far.0.0, over.1 ∙ so_far.0.1, over.2 ∙ so_far.0.2),
      subst (λ r. IsRewrittenTo (call g.F.FnMut g.D.IntoPattern.pattern_lengths layout.offset ns ss) (place_at_rank layout.offset ns ss) r old new c.args.f c.change_with_index-now.result) (sym on)
          (indexed_more g.F.FnMut g.D.IntoPattern.pattern_lengths layout.offset ns ss old (g.S.Data.stored c.loop-place.storage) c.args.f c.loop-place.now k c.in-Some.place below c.requires.apart lies so_far.1
          new c.change_with_index-now.result c.index_with-index.result (c.index_with-index.ensures ∙ (c.index.ensures c.in-Some.ensures.0 ∙ ap (λ l. index_at l k) so_far.0.1)) c.change_with_index-now.ensures.called c.change_with_index-now.ensures.left),
      c.change_with_index-now.ensures.frame ∙ so_far.2,
    )

pub returns-clause-changed : goal.returns-clause-changed
returns-clause-changed g c =
    let so_far = c.loop-place.invariant in
    let layout = c.args.layout.now in
    let ns = g.D.Dimension.lengths layout.dim in
    let ss = g.T.StrideList.strides_of layout.strides in
    subst (λ r. IsRewrittenTo (call g.F.FnMut g.D.IntoPattern.pattern_lengths layout.offset ns ss) (place_at_rank layout.offset ns ss) r (g.S.Data.stored c.args.storage.now) (g.S.Data.stored c.loop-place.storage) c.args.f c.loop-place.now)
    (c.in_default.ensures ∙ ap size_of so_far.0.1) so_far.1
