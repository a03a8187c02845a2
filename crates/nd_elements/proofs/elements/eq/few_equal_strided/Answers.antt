use Rattle.nd_elements.proofs.NamesFromOtherCrates.{◌≡◌, ◌∙◌, ℕ, ◌+◌, ◌<◌, true, ap, sym, arith, is_some, pointwise}
use Rattle.nd_elements.specs.StoragePlaces.{stored_at}
use Rattle.nd_elements.specs.CollectedElements.{collected, stored_along}
use Rattle.nd_elements.proofs.elements_lemmas.ComparedElements.{compared_more, front_differs}
use Rattle.nd_elements.proofs.elements.eq.few_equal_strided.Goals as goal

pub loop-nth-preserved : goal.loop-nth-preserved
loop-nth-preserved g c =
    let a = g.S.Data.stored c.args.a.now in
    let b = g.S.Data.stored c.args.b.now in
    sym c.if-not-eq.false
    ∙ c.eq.ensures
    ∙ compared_more g.S.Elem.PartialEq.eq (λ k. stored_along a c.args.ours.place c.args.ours.stride (c.args.from + k)) (λ k. stored_along b c.args.theirs.place c.args.theirs.stride (c.args.from + k))
    c.loop-nth.nth c.element-x.result.now c.element-y.result.now true
    (λ j below. c.requires.ours (c.args.from + j) (omega (arith, below, c.requires.within, c.loop-nth-test.true)))
    (λ j below. c.requires.theirs (c.args.from + j) (omega (arith, below, c.requires.within, c.loop-nth-test.true)))
    (ap (stored_at a) (sym c.place_of.ensures) ∙ c.element-x.ensures)
    (ap (stored_at b) (sym c.place_of-in-loop-nth.ensures) ∙ c.element-y.ensures)
    c.loop-nth.invariant

pub returns-then-not-eq : goal.returns-then-not-eq
returns-then-not-eq g c =
    let a = g.S.Data.stored c.args.a.now in
    let b = g.S.Data.stored c.args.b.now in
    let f = λ (k : ℕ). stored_along a c.args.ours.place c.args.ours.stride (c.args.from + k) in
    let h = λ (k : ℕ). stored_along b c.args.theirs.place c.args.theirs.stride (c.args.from + k) in
    let some : (j : ℕ) → j < c.args.count → is_some (f j) ≡ true = λ j below. c.requires.ours (c.args.from + j) (omega (arith, below, c.requires.within)) in
    let other : (j : ℕ) → j < c.args.count → is_some (h j) ≡ true = λ j below. c.requires.theirs (c.args.from + j) (omega (arith, below, c.requires.within)) in
    let more =
    compared_more g.S.Elem.PartialEq.eq f h c.loop-nth.nth c.element-x.result.now c.element-y.result.now true
    (λ j below. some j (omega (arith, below, c.loop-nth-test.true)))
    (λ j below. other j (omega (arith, below, c.loop-nth-test.true)))
    (ap (stored_at a) (sym c.place_of.ensures) ∙ c.element-x.ensures)
    (ap (stored_at b) (sym c.place_of-in-loop-nth.ensures) ∙ c.element-y.ensures)
    c.loop-nth.invariant in
    sym (front_differs g.S.Elem.PartialEq.eq f h c.args.count some other (c.loop-nth.nth + 1) (omega (arith, c.loop-nth-test.true)) (sym more ∙ sym c.eq.ensures ∙ c.if-not-eq.true))

pub returns : goal.returns
returns g c =
    let whole : c.loop-nth.nth ≡ c.args.count = (let end = c.loop-nth-test.false in let most = c.loop-nth.auto.nth-end in omega (arith, end, most)) in
    c.loop-nth.invariant
    ∙ ap
    (λ n. pointwise g.S.Elem.PartialEq.eq
    (collected (λ k. stored_along (g.S.Data.stored c.args.a.now) c.args.ours.place c.args.ours.stride (c.args.from + k)) n)
    (collected (λ k. stored_along (g.S.Data.stored c.args.b.now) c.args.theirs.place c.args.theirs.stride (c.args.from + k)) n))
    whole
