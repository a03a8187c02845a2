use Rattle.nd_elements.proofs.NamesFromOtherCrates.{◌<◌, sym, subst, slice_get}
use Rattle.nd_elements.specs.ElementsAtNumberedPlaces.{in_turn}
use Rattle.nd_elements.specs.elements.PairMaps.{AnswersPair, pairs_at}
use Rattle.nd_elements.proofs.elements_lemmas.MappedElements.{got_there, ran_one_more}
use Rattle.nd_elements.proofs.elements_lemmas.PairMaps.{pair_is}
use Rattle.nd_elements.proofs.elements.zip_for_each.show_pairs_slice.Goals as goal

pub f-requires : goal.f-requires
f-requires g c =
    let xs = c.args.xs.now in
    let ys = c.args.ys.now in
    let nth = c.loop-nth.nth in
    c.requires.callable nth c.loop-nth.f c.loop-nth-test.true c.loop-nth.invariant _ _
    (pair_is (got_there xs nth c.index-xs-nth.result c.loop-nth-test.true c.index-xs-nth.is) (got_there ys nth c.index-ys-nth.result (subst (λ n. nth < n) (sym c.requires.as_long) c.loop-nth-test.true) c.index-ys-nth.is))

pub loop-nth-preserved : goal.loop-nth-preserved
loop-nth-preserved g c =
    let xs = c.args.xs.now in
    let ys = c.args.ys.now in
    let nth = c.loop-nth.nth in
    ran_one_more (AnswersPair g.F.FnMut) (pairs_at slice_get (in_turn xs) xs slice_get (in_turn ys) ys) c.args.f c.loop-nth.f c.f.new.self nth c.f.result c.loop-nth.invariant
    (_, _, pair_is (got_there xs nth c.index-xs-nth.result c.loop-nth-test.true c.index-xs-nth.is) (got_there ys nth c.index-ys-nth.result (subst (λ n. nth < n) (sym c.requires.as_long) c.loop-nth-test.true) c.index-ys-nth.is), c.f.ensures)
