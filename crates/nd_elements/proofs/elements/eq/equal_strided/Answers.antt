use Rattle.nd_elements.proofs.NamesFromOtherCrates.{◌∙◌, ◌+◌, ◌≤◌, sym, arith}
use Rattle.nd_elements.specs.CollectedElements.{stored_along}
use Rattle.nd_elements.proofs.elements_lemmas.ComparedElements.{block_more, block_differs, block_last}
use Rattle.nd_elements.proofs.elements.eq.equal_strided.Goals as goal

pub returns-then-not-block_equal_strided : goal.returns-then-not-block_equal_strided
returns-then-not-block_equal_strided g c =
    let b = stored_along (g.S.Data.stored c.args.b.now) c.args.theirs.place c.args.theirs.stride in
    let within : c.loop-from.from + 16 ≤ c.args.ours.count = omega (arith, c.loop-from-test.true) in
    sym
    (block_differs g.S.Elem.PartialEq.eq (stored_along (g.S.Data.stored c.args.a.now) c.args.ours.place c.args.ours.stride) b c.args.ours.count c.requires.ours (λ k below. c.requires.theirs k (let as_long = c.requires.as_long in omega (arith, below, as_long)))
    c.loop-from.from 16 within (sym c.block_equal_strided.ensures ∙ c.if-not-block_equal_strided.true))

pub loop-from-preserved : goal.loop-from-preserved
loop-from-preserved g c =
    let b = stored_along (g.S.Data.stored c.args.b.now) c.args.theirs.place c.args.theirs.stride in
    let within : c.loop-from.from + 16 ≤ c.args.ours.count = omega (arith, c.loop-from-test.true) in (
      within,
      block_more g.S.Elem.PartialEq.eq (stored_along (g.S.Data.stored c.args.a.now) c.args.ours.place c.args.ours.stride) b c.args.ours.count c.requires.ours (λ k below. c.requires.theirs k (let as_long = c.requires.as_long in omega (arith, below, as_long)))
          c.loop-from.from 16 within c.loop-from.invariant.1 (sym c.block_equal_strided.ensures ∙ c.if-not-block_equal_strided.false),
    )

pub returns : goal.returns
returns g c =
    let b = stored_along (g.S.Data.stored c.args.b.now) c.args.theirs.place c.args.theirs.stride in
    c.few_equal_strided.ensures
    ∙ sym
    (block_last g.S.Elem.PartialEq.eq (stored_along (g.S.Data.stored c.args.a.now) c.args.ours.place c.args.ours.stride) b c.args.ours.count c.requires.ours (λ k below. c.requires.theirs k (let as_long = c.requires.as_long in omega (arith, below, as_long)))
    c.loop-from.from c.loop-from.invariant.0 c.loop-from.invariant.1)
