use Rattle.nd_elements.proofs.NamesFromOtherCrates.{◌≡◌, ◌∙◌, ◌+◌, ◌&&◌, suc, ap, arith, take, pointwise}
use Rattle.std.proofs.lemmas.Grind.{common_steps}
use Rattle.nd_elements.proofs.elements_lemmas.ComparedElements.{pair_more}
use Rattle.nd_elements.proofs.elements.eq.block_equal_slice.Goals as goal

pub loop-nth-preserved : goal.loop-nth-preserved
loop-nth-preserved g c =
    let next : suc c.loop-nth.nth ≡ c.loop-nth.nth + 1 = omega (arith) in
    (λ i. c.loop-nth.invariant i && c.eq-same.ensures i)
    ∙ pair_more g.A.PartialEq.eq c.loop-nth.nth c.args.xs.now c.args.ys.now c.index-xs-nth.result c.index-ys-nth.result
    (omega (arith, c.loop-nth-test.true, c.requires.0)) (omega (arith, c.loop-nth-test.true, c.requires.1)) c.index-xs-nth.is c.index-ys-nth.is
    ∙ ap (λ n. pointwise g.A.PartialEq.eq (take n c.args.xs.now) (take n c.args.ys.now)) next

pub returns : goal.returns
returns g c = grind (arith, common_steps)
