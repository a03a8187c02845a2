use Rattle.nd_elements.proofs.NamesFromOtherCrates.{◌≡◌, refl, subst, ◌∙◌, arith}
use Rattle.nd_elements.specs.elements.ElementMaps.{AnswersAfter}
use Rattle.nd_elements.proofs.elements_lemmas.MappedElements.{after_none, after_ran, after_more}
use Rattle.nd_array_core.specs.elements.TripleMaps.{AnswersTriple, lanes_show}
use Rattle.nd_array_core.proofs.elements_lemmas.ClosuresOnTriples.{triple_is}
use Rattle.nd_array_core.proofs.elements.zip_map_with_two.answer_by_places.Goals as goal

pub f-requires : goal.f-requires
f-requires g c =
    c.requires.callable c.loop-nth.nth c.loop-nth.f c.loop-nth-test.true
    (after_ran (AnswersTriple g.F.FnMut) (lanes_show c.args.one.now c.args.two.now c.args.three.now) c.loop-nth.nth c.args.items.now.items c.loop-nth.items.items c.args.f c.loop-nth.f c.loop-nth.invariant.0)
    c.element-x.result c.element-y.result c.element-z.result (triple_is c.element-x.ensures c.element-y.ensures c.element-z.ensures)

pub loop-nth-init : goal.loop-nth-init
loop-nth-init g c = (after_none (AnswersTriple g.F.FnMut) (lanes_show c.args.one.now c.args.two.now c.args.three.now) c.args.items.now.items c.args.f, omega arith, refl)

pub loop-nth-preserved : goal.loop-nth-preserved
loop-nth-preserved g c = (
  after_more (AnswersTriple g.F.FnMut) (lanes_show c.args.one.now c.args.two.now c.args.three.now) c.loop-nth.nth c.args.items.now.items c.loop-nth.items.items c.push_reserved.new.self.items c.args.f c.loop-nth.f c.f.new.self c.f.result
      c.push_reserved.ensures.items
      (c.element-x.result, c.element-y.result, c.element-z.result, triple_is c.element-x.ensures c.element-y.ensures c.element-z.ensures, c.f.ensures) c.loop-nth.invariant.0,
  (let len = c.loop-nth.invariant.1 in let more = c.push_reserved.ensures.len in omega (arith, len, more)),
  c.push_reserved.ensures.capacity ∙ c.loop-nth.invariant.2,
)

pub returns-clause-pushed : goal.returns-clause-pushed
returns-clause-pushed g c =
    let all : c.loop-nth.nth ≡ c.args.one.now.lane.count = omega (arith, c.loop-nth-test.false, c.loop-nth.auto.nth-end) in
    subst (λ n. AnswersAfter (AnswersTriple g.F.FnMut) (lanes_show c.args.one.now c.args.two.now c.args.three.now) n c.args.items.now.items c.loop-nth.items.items c.args.f c.loop-nth.f) all c.loop-nth.invariant.0
