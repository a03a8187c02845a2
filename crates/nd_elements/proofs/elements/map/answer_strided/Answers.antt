use Rattle.nd_elements.proofs.NamesFromOtherCrates.{◌≡◌, ap, sym, subst, ◌∙◌, arith, along}
use Rattle.nd_elements.specs.StoragePlaces.{stored_at}
use Rattle.nd_elements.specs.ElementsAtNumberedPlaces.{elements_at}
use Rattle.nd_elements.specs.elements.ElementMaps.{AnswersElement, AnswersAfter}
use Rattle.nd_elements.proofs.elements_lemmas.MappedElements.{after_ran, after_more}
use Rattle.nd_elements.proofs.elements.map.answer_strided.Goals as goal

pub f-requires : goal.f-requires
f-requires g c =
    c.requires.callable c.loop-nth.nth c.loop-nth.f c.loop-nth-test.true
    (after_ran (AnswersElement g.F.FnMut) (elements_at g.S.Data.stored (along c.args.lane) c.args.storage.now) c.loop-nth.nth c.args.items.now.items c.loop-nth.items.items c.args.f c.loop-nth.f c.loop-nth.invariant.0)
    c.element.result (ap (stored_at (g.S.Data.stored c.args.storage.now)) (sym c.place_of.ensures) ∙ sym (c.borrowed-region.ensures c.place_of.result) ∙ c.element.ensures)

pub loop-nth-preserved : goal.loop-nth-preserved
loop-nth-preserved g c =
    let stored = g.S.Data.stored c.args.storage.now in (
      after_more (AnswersElement g.F.FnMut) (elements_at g.S.Data.stored (along c.args.lane) c.args.storage.now) c.loop-nth.nth c.args.items.now.items c.loop-nth.items.items c.push_reserved.new.self.items c.args.f c.loop-nth.f c.f.new.self c.f.result
          c.push_reserved.ensures.items (c.element.result, ap (stored_at stored) (sym c.place_of.ensures) ∙ sym (c.borrowed-region.ensures c.place_of.result) ∙ c.element.ensures, c.f.ensures) c.loop-nth.invariant.0,
      (let len = c.loop-nth.invariant.1 in let more = c.push_reserved.ensures.len in omega (arith, len, more)),
      c.push_reserved.ensures.capacity ∙ c.loop-nth.invariant.2,
    )

pub returns-clause-pushed : goal.returns-clause-pushed
returns-clause-pushed g c =
    let all : c.loop-nth.nth ≡ c.args.lane.count = omega (arith, c.loop-nth-test.false, c.loop-nth.auto.nth-end) in
    subst (λ n. AnswersAfter (AnswersElement g.F.FnMut) (elements_at g.S.Data.stored (along c.args.lane) c.args.storage.now) n c.args.items.now.items c.loop-nth.items.items c.args.f c.loop-nth.f) all c.loop-nth.invariant.0
