use Rattle.nd_elements.proofs.NamesFromOtherCrates.{◌<◌, ◌∙◌, refl, sym, subst, length, get_or, slice_set, slice_get, slice_get-get_or, set_there, set_elsewhere}
use Rattle.nd_elements.specs.elements.PairsWithOneWritten.{ChangesWith}
use Rattle.nd_elements.proofs.elements_lemmas.MappedElements.{got_there}
use Rattle.nd_elements.proofs.elements_lemmas.PairedElements.{next_zipped}
use Rattle.nd_elements.proofs.RewrittenElements.{rewritten_more}
use Rattle.nd_elements.proofs.elements_lemmas.RunPairs.{number, numbers_distinct}
use Rattle.nd_elements.proofs.elements.zip_mut_with.zip_slice.Goals as goal

pub f-requires : goal.f-requires
f-requires g c =
    let nth = c.loop-nth.nth in
    next_zipped g.F.FnMut (slice_get c.args.ys.now) number number (length c.args.xs.now) nth nth c.index-ys-nth.result (subst (λ n. nth < n) c.requires.as_long c.loop-nth-test.true) (numbers_distinct (length c.args.xs.now)) refl
    (sym (got_there c.args.ys.now nth c.index-ys-nth.result c.loop-nth-test.true c.index-ys-nth.is)) (slice_get c.args.xs.now) (slice_get c.loop-nth.xs) c.args.f c.loop-nth.f c.loop-nth.invariant c.requires.callable _ _
    (slice_get-get_or c.loop-nth.xs nth c.index-xs-nth.result (subst (λ n. nth < n) (c.requires.as_long ∙ sym c.loop-nth.auto.xs) c.loop-nth-test.true)) refl

pub loop-nth-preserved : goal.loop-nth-preserved
loop-nth-preserved g c =
    let nth = c.loop-nth.nth in
    let below = subst (λ n. nth < n) (c.requires.as_long ∙ sym c.loop-nth.auto.xs) c.loop-nth-test.true in
    rewritten_more (λ k o w p q. ChangesWith g.F.FnMut (slice_get c.args.ys.now k) o w p q) number nth (length c.args.xs.now) nth (subst (λ n. nth < n) c.requires.as_long c.loop-nth-test.true) (numbers_distinct (length c.args.xs.now)) refl
    (slice_get c.args.xs.now) (slice_get c.loop-nth.xs) (slice_get (slice_set c.loop-nth.xs nth c.f.new.arg2)) c.args.f c.loop-nth.f c.f.new.self c.loop-nth.invariant (
      get_or c.loop-nth.xs nth c.index-xs-nth.result,
      c.f.new.arg2,
      _,
      slice_get-get_or c.loop-nth.xs nth c.index-xs-nth.result below,
      set_there c.loop-nth.xs nth c.f.new.arg2 below,
      got_there c.args.ys.now nth c.index-ys-nth.result c.loop-nth-test.true c.index-ys-nth.is,
      record { shown = _; shows = refl; left = _; called = c.f.ensures; leaves = refl },
    )
    (λ q apart. set_elsewhere c.loop-nth.xs nth q c.f.new.arg2 apart)
