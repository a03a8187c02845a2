use Rattle.nd_elements.proofs.NamesFromOtherCrates.{ap, sym, ◌∙◌, along}
use Rattle.nd_elements.specs.StoragePlaces.{stored_at}
use Rattle.nd_elements.specs.elements.PairFolds.{FoldsPair}
use Rattle.nd_elements.specs.elements.PairMaps.{pairs_at}
use Rattle.nd_elements.proofs.elements_lemmas.PairMaps.{pair_is}
use Rattle.nd_elements.proofs.NumberedCalls.{ran_more}
use Rattle.nd_elements.proofs.elements.zip_fold.fold_pairs_strided.Goals as goal

pub f-total-requires : goal.f-total-requires
f-total-requires g c =
    c.requires.callable c.loop-nth.nth (c.loop-nth.f, c.loop-nth.total) c.loop-nth-test.true c.loop-nth.invariant c.element-x.result c.element-y.result
    (pair_is (ap (stored_at (g.S.Data.stored c.args.storage.now)) (sym c.place_of.ensures) ∙ c.element-x.ensures) (ap (stored_at (g.Z.Data.stored c.args.others.now)) (sym c.place_of-in-loop-nth.ensures) ∙ c.element-y.ensures))

pub loop-nth-preserved : goal.loop-nth-preserved
loop-nth-preserved g c =
    ran_more (λ p j q. FoldsPair g.F.FnMut (pairs_at g.S.Data.stored (along c.args.lane) c.args.storage.now g.Z.Data.stored (along c.args.other_lane) c.args.others.now j) p q)
    (c.args.f, c.args.init) (c.loop-nth.f, c.loop-nth.total) (c.f-total.new.self, c.f-total.result) c.loop-nth.nth c.loop-nth.invariant
    (c.element-x.result, c.element-y.result, pair_is (ap (stored_at (g.S.Data.stored c.args.storage.now)) (sym c.place_of.ensures) ∙ c.element-x.ensures) (ap (stored_at (g.Z.Data.stored c.args.others.now)) (sym c.place_of-in-loop-nth.ensures) ∙ c.element-y.ensures), c.f-total.ensures)
