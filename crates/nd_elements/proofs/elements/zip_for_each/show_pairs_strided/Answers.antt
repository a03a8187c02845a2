use Rattle.nd_elements.proofs.NamesFromOtherCrates.{ap, sym, ◌∙◌, along}
use Rattle.nd_elements.specs.StoragePlaces.{stored_at}
use Rattle.nd_elements.specs.elements.PairMaps.{AnswersPair, pairs_at}
use Rattle.nd_elements.proofs.elements_lemmas.MappedElements.{ran_one_more}
use Rattle.nd_elements.proofs.elements_lemmas.PairMaps.{pair_is}
use Rattle.nd_elements.proofs.elements.zip_for_each.show_pairs_strided.Goals as goal

pub f-requires : goal.f-requires
f-requires g c =
    c.requires.callable c.loop-nth.nth c.loop-nth.f c.loop-nth-test.true c.loop-nth.invariant c.element-x.result c.element-y.result
    (pair_is (ap (stored_at (g.S.Data.stored c.args.storage.now)) (sym c.place_of.ensures) ∙ c.element-x.ensures) (ap (stored_at (g.Z.Data.stored c.args.others.now)) (sym c.place_of-in-loop-nth.ensures) ∙ c.element-y.ensures))

pub loop-nth-preserved : goal.loop-nth-preserved
loop-nth-preserved g c =
    ran_one_more (AnswersPair g.F.FnMut) (pairs_at g.S.Data.stored (along c.args.lane) c.args.storage.now g.Z.Data.stored (along c.args.other_lane) c.args.others.now) c.args.f c.loop-nth.f c.f.new.self c.loop-nth.nth c.f.result c.loop-nth.invariant
    (c.element-x.result, c.element-y.result, pair_is (ap (stored_at (g.S.Data.stored c.args.storage.now)) (sym c.place_of.ensures) ∙ c.element-x.ensures) (ap (stored_at (g.Z.Data.stored c.args.others.now)) (sym c.place_of-in-loop-nth.ensures) ∙ c.element-y.ensures), c.f.ensures)
