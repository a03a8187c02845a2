use Rattle.nd_elements.proofs.NamesFromOtherCrates.{◌<◌, ◌∙◌, sym, refl, subst, length, arith, Some, slice_get, slice_get-get_or}
use Rattle.nd_elements.specs.along.FoldOfLanes.{FoldsBetween}
use Rattle.nd_elements.proofs.along_lemmas.LanesFolding.{parallel_more, parallel_kept}
use Rattle.nd_elements.proofs.elements_lemmas.MappedElements.{got_there}
use Rattle.nd_elements.proofs.along.fold_lanes_together.fold_parallel_slice.Goals as goal

pub f-total-requires : goal.f-total-requires
f-total-requires g c =
    let nth = c.loop-nth.nth in
    let below : nth < length c.args.totals.now = subst (λ n. nth < n) c.requires.as_long c.loop-nth-test.true in
    c.requires.callable (slice_get c.loop-nth.totals) nth c.loop-nth.f below c.loop-nth.invariant.0 _ _
    (sym (c.loop-nth.invariant.1 nth (omega arith)) ∙ slice_get-get_or c.loop-nth.totals nth c.index-totals-nth.result (subst (λ n. nth < n) (sym c.loop-nth.auto.totals) below))
    (got_there c.args.items.now nth c.index-items-nth.result c.loop-nth-test.true c.index-items-nth.is)

pub loop-nth-preserved : goal.loop-nth-preserved
loop-nth-preserved g c =
    let nth = c.loop-nth.nth in
    let now = c.loop-nth.totals in
    let items = c.args.items.now in
    let below : nth < length now = subst (λ n. nth < n) (c.requires.as_long ∙ sym c.loop-nth.auto.totals) c.loop-nth-test.true in
    let y = c.f-total.result in
    let call : FoldsBetween g.F.FnMut (slice_get now nth) (slice_get items nth) (Some y) c.loop-nth.f c.f-total.new.self =
    record { total = _; shows = slice_get-get_or now nth c.index-totals-nth.result below; shown = _; is = got_there items nth c.index-items-nth.result c.loop-nth-test.true c.index-items-nth.is; answer = y; gives = refl; called = c.f-total.ensures } in (
      parallel_more g.F.FnMut (slice_get items) c.args.totals.now now c.args.f nth y c.loop-nth.invariant.1 c.loop-nth.f c.f-total.new.self below c.loop-nth.invariant.0 call,
      parallel_kept g.F.FnMut (slice_get items) c.args.totals.now now c.args.f nth y c.loop-nth.invariant.1,
    )
