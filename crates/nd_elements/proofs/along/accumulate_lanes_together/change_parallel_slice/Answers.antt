use Rattle.nd_elements.proofs.NamesFromOtherCrates.{◌<◌, ◌∙◌, sym, refl, subst, length, get_or, arith, Some, slice_get, slice_get-get_or}
use Rattle.nd_elements.specs.along.AccumulateAlongAxis.{ChangesAfter}
use Rattle.nd_elements.proofs.elements_lemmas.MappedElements.{got_there}
use Rattle.nd_elements.proofs.along_lemmas.RowPairs.{row_more, row_kept}
use Rattle.nd_elements.proofs.along.accumulate_lanes_together.change_parallel_slice.Goals as goal

pub f-requires : goal.f-requires
f-requires g c =
    let nth = c.loop-nth.nth in
    let below : nth < length c.args.items.now = subst (λ n. nth < n) c.requires.as_long c.loop-nth-test.true in
    c.requires.callable (slice_get c.loop-nth.items) nth c.loop-nth.f below c.loop-nth.invariant.0 _ _
    (got_there c.args.before.now nth c.index-before-nth.result c.loop-nth-test.true c.index-before-nth.is)
    (sym (c.loop-nth.invariant.1 nth (omega arith)) ∙ slice_get-get_or c.loop-nth.items nth c.index-items-nth.result (subst (λ n. nth < n) (sym c.loop-nth.auto.items) below))

pub loop-nth-preserved : goal.loop-nth-preserved
loop-nth-preserved g c =
    let nth = c.loop-nth.nth in
    let now = c.loop-nth.items in
    let before = c.args.before.now in
    let below : nth < length now = subst (λ n. nth < n) (c.requires.as_long ∙ sym c.loop-nth.auto.items) c.loop-nth-test.true in
    let y = c.f.new.arg3 in
    let call : ChangesAfter g.F.FnMut (slice_get before nth) (slice_get now nth) (Some y) c.loop-nth.f c.f.new.self = (
      c.index-before-nth.result,
      get_or now nth c.index-items-nth.result,
      y,
      got_there before nth c.index-before-nth.result c.loop-nth-test.true c.index-before-nth.is,
      slice_get-get_or now nth c.index-items-nth.result below,
      refl,
      record { shown = _; shows = refl; given = _; gives = refl; left = _; called = c.f.ensures; leaves = refl },
    ) in (
      row_more g.F.FnMut (slice_get before) c.args.items.now now c.args.f nth y c.loop-nth.invariant.1 c.loop-nth.f c.f.new.self below c.loop-nth.invariant.0 call,
      row_kept g.F.FnMut (slice_get before) c.args.items.now now c.args.f nth y c.loop-nth.invariant.1,
    )
