use Rattle.nd_elements.proofs.NamesFromOtherCrates.{◌≡◌, ◌∙◌, ◌+◌, ◌&&◌, ap, sym, arith, pointwise}
use Rattle.nd_elements.specs.StoragePlaces.{stored_at}
use Rattle.nd_elements.specs.CollectedElements.{collected, stored_along}
use Rattle.nd_elements.proofs.elements_lemmas.ComparedElements.{compared_more}
use Rattle.nd_elements.proofs.elements.eq.block_equal_strided.Goals as goal

pub loop-nth-preserved : goal.loop-nth-preserved
loop-nth-preserved g c =
    let a = g.S.Data.stored c.args.a.now in
    let b = g.S.Data.stored c.args.b.now in
    ap (λ t. c.loop-nth.same && t) c.eq-same.ensures
    ∙ compared_more g.S.Elem.PartialEq.eq (λ k. stored_along a c.args.ours.place c.args.ours.stride (c.args.from + k)) (λ k. stored_along b c.args.theirs.place c.args.theirs.stride (c.args.from + k))
    c.loop-nth.nth c.element-x.result.now c.element-y.result.now c.loop-nth.same
    (λ j below. c.requires.ours (c.args.from + j) (omega (arith, below, c.requires.within, c.loop-nth-test.true)))
    (λ j below. c.requires.theirs (c.args.from + j) (omega (arith, below, c.requires.within, c.loop-nth-test.true)))
    (ap (stored_at a) (sym c.place_of.ensures) ∙ c.element-x.ensures)
    (ap (stored_at b) (sym c.place_of-in-loop-nth.ensures) ∙ c.element-y.ensures)
    c.loop-nth.invariant

pub returns : goal.returns
returns g c =
    let whole : c.loop-nth.nth ≡ c.args.count = (let end = c.loop-nth-test.false in let most = c.loop-nth.auto.nth-end in omega (arith, end, most)) in
    c.loop-nth.invariant
    ∙ ap
    (λ n. pointwise g.S.Elem.PartialEq.eq
    (collected (λ k. stored_along (g.S.Data.stored c.args.a.now) c.args.ours.place c.args.ours.stride (c.args.from + k)) n)
    (collected (λ k. stored_along (g.S.Data.stored c.args.b.now) c.args.theirs.place c.args.theirs.stride (c.args.from + k)) n))
    whole
