use Rattle.nd_elements.proofs.NamesFromOtherCrates.{◌≡◌, refl, ap, sym, subst, ◌∙◌, arith, along}
use Rattle.nd_elements.specs.StoragePlaces.{stored_at}
use Rattle.nd_elements.specs.elements.ElementMaps.{AnswersAfter}
use Rattle.nd_elements.specs.elements.PairMaps.{AnswersPair, pairs_at}
use Rattle.nd_elements.proofs.elements_lemmas.MappedElements.{after_none, after_ran, after_more}
use Rattle.nd_elements.proofs.elements_lemmas.PairMaps.{pair_is}
use Rattle.nd_elements.proofs.elements.zip_map.answer_pairs_by_places.Goals as goal

pub f-requires : goal.f-requires
f-requires g c =
    c.requires.callable c.loop-nth.nth c.loop-nth.f c.loop-nth-test.true
    (after_ran (AnswersPair g.F.FnMut) (pairs_at g.S.Data.stored (along c.args.lane) c.args.storage.now g.Z.Data.stored (along c.args.other_lane) c.args.others.now) c.loop-nth.nth c.args.items.now.items c.loop-nth.items.items c.args.f c.loop-nth.f c.loop-nth.invariant.0)
    c.element-x.result c.element-y.result
    (pair_is (ap (stored_at (g.S.Data.stored c.args.storage.now)) (sym c.place_of.ensures) ∙ sym (c.borrowed-region.ensures c.place_of.result) ∙ c.element-x.ensures) (ap (stored_at (g.Z.Data.stored c.args.others.now)) (sym c.place_of-in-loop-nth.ensures) ∙ sym (c.borrowed-other_region.ensures c.place_of-in-loop-nth.result) ∙ c.element-y.ensures))

pub loop-nth-preserved : goal.loop-nth-preserved
loop-nth-preserved g c = (
  after_more (AnswersPair g.F.FnMut) (pairs_at g.S.Data.stored (along c.args.lane) c.args.storage.now g.Z.Data.stored (along c.args.other_lane) c.args.others.now) c.loop-nth.nth c.args.items.now.items c.loop-nth.items.items c.push_reserved.new.self.items c.args.f c.loop-nth.f c.f.new.self c.f.result
      c.push_reserved.ensures.items
      (c.element-x.result, c.element-y.result, pair_is (ap (stored_at (g.S.Data.stored c.args.storage.now)) (sym c.place_of.ensures) ∙ sym (c.borrowed-region.ensures c.place_of.result) ∙ c.element-x.ensures) (ap (stored_at (g.Z.Data.stored c.args.others.now)) (sym c.place_of-in-loop-nth.ensures) ∙ sym (c.borrowed-other_region.ensures c.place_of-in-loop-nth.result) ∙ c.element-y.ensures), c.f.ensures) c.loop-nth.invariant.0,
  (let len = c.loop-nth.invariant.1 in let more = c.push_reserved.ensures.len in omega (arith, len, more)),
  c.push_reserved.ensures.capacity ∙ c.loop-nth.invariant.2,
)

pub returns-clause-pushed : goal.returns-clause-pushed
returns-clause-pushed g c =
    let all : c.loop-nth.nth ≡ c.args.lane.count = omega (arith, c.loop-nth-test.false, c.loop-nth.auto.nth-end) in
    subst (λ n. AnswersAfter (AnswersPair g.F.FnMut) (pairs_at g.S.Data.stored (along c.args.lane) c.args.storage.now g.Z.Data.stored (along c.args.other_lane) c.args.others.now) n c.args.items.now.items c.loop-nth.items.items c.args.f c.loop-nth.f) all c.loop-nth.invariant.0

pub loop-nth-init : goal.loop-nth-init
loop-nth-init g c = (after_none (AnswersPair g.F.FnMut) (pairs_at g.S.Data.stored (along c.args.lane) c.args.storage.now g.Z.Data.stored (along c.args.other_lane) c.args.others.now) c.args.items.now.items c.args.f, omega arith, refl)
