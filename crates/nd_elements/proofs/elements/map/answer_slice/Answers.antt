use Rattle.nd_elements.proofs.NamesFromOtherCrates.{arith, ◌∙◌, slice_get}
use Rattle.nd_elements.specs.elements.ElementMaps.{AnswersElement}
use Rattle.nd_elements.proofs.elements_lemmas.MappedElements.{got_there, after_ran, after_more}
use Rattle.nd_elements.proofs.elements.map.answer_slice.Goals as goal

pub f-requires : goal.f-requires
f-requires g c =
    c.requires.callable c.loop-nth.nth c.loop-nth.f c.loop-nth-test.true
    (after_ran (AnswersElement g.F.FnMut) (slice_get c.args.xs.now) c.loop-nth.nth c.args.items.now.items c.loop-nth.items.items c.args.f c.loop-nth.f c.loop-nth.invariant.0)
    _ (got_there c.args.xs.now c.loop-nth.nth c.index-xs-nth.result c.loop-nth-test.true c.index-xs-nth.is)

pub loop-nth-preserved : goal.loop-nth-preserved
loop-nth-preserved g c = (
  after_more (AnswersElement g.F.FnMut) (slice_get c.args.xs.now) c.loop-nth.nth c.args.items.now.items c.loop-nth.items.items c.push_reserved.new.self.items c.args.f c.loop-nth.f c.f.new.self c.f.result
      c.push_reserved.ensures.items (_, got_there c.args.xs.now c.loop-nth.nth c.index-xs-nth.result c.loop-nth-test.true c.index-xs-nth.is, c.f.ensures) c.loop-nth.invariant.0,
  (let len = c.loop-nth.invariant.1 in let more = c.push_reserved.ensures.len in omega (arith, len, more)),
  c.push_reserved.ensures.capacity ∙ c.loop-nth.invariant.2,
)
