use Rattle.nd_elements.proofs.NamesFromOtherCrates.{arith, ◌≡◌, ◌∙◌, ap, sym, subst, length, Some, slice_get}
use Rattle.nd_elements.specs.elements.ElementMaps.{AnswersValue, AnswersAfter}
use Rattle.nd_elements.proofs.elements_lemmas.MappedElements.{on_err_from, got_there, after_ran, after_more}
use Rattle.nd_elements.proofs.elements.mapv.value_slice.Goals as goal

pub f-requires : goal.f-requires
f-requires g c =
    let there = got_there c.args.xs.now c.loop-nth.nth c.index-xs-nth.result c.loop-nth-test.true c.index-xs-nth.is in
    let copied : c.in_ok-copy.copy ≡ c.index-xs-nth.result = c.requires.clones c.loop-nth.nth c.index-xs-nth.result there c.in_ok-copy.copy c.in_ok-copy.ensures.cases in
    c.requires.callable c.loop-nth.nth c.loop-nth.f c.loop-nth-test.true
    (after_ran (AnswersValue g.F.FnMut) (slice_get c.args.xs.now) c.loop-nth.nth c.args.items.now.items c.loop-nth.items.items c.args.f c.loop-nth.f c.loop-nth.invariant.0)
    c.in_ok-copy.copy (there ∙ ap Some (sym copied))

pub loop-nth-preserved : goal.loop-nth-preserved
loop-nth-preserved g c =
    let there = got_there c.args.xs.now c.loop-nth.nth c.index-xs-nth.result c.loop-nth-test.true c.index-xs-nth.is in
    let copied : c.in_ok-copy.copy ≡ c.index-xs-nth.result = c.requires.clones c.loop-nth.nth c.index-xs-nth.result there c.in_ok-copy.copy c.in_ok-copy.ensures.cases in (
      after_more (AnswersValue g.F.FnMut) (slice_get c.args.xs.now) c.loop-nth.nth c.args.items.now.items c.loop-nth.items.items c.push_reserved.new.self.items c.args.f c.loop-nth.f c.f.new.self c.f.result
          c.push_reserved.ensures.items (c.in_ok-copy.copy, there ∙ ap Some (sym copied), c.f.ensures) c.loop-nth.invariant.0,
      (let len = c.loop-nth.invariant.1 in let more = c.push_reserved.ensures.len in omega (arith, len, more)),
      c.push_reserved.ensures.capacity ∙ c.loop-nth.invariant.2,
    )

pub returns-clause-pushed : goal.returns-clause-pushed
returns-clause-pushed g c =
    let through : c.loop-nth.nth ≡ length c.args.xs.now = omega arith in
    subst (λ n. AnswersAfter (AnswersValue g.F.FnMut) (slice_get c.args.xs.now) n c.args.items.now.items c.loop-nth.items.items c.args.f c.loop-nth.f) through c.loop-nth.invariant.0

pub returns-in_err-copy-clause-refused : goal.returns-in_err-copy-clause-refused
returns-in_err-copy-clause-refused g c =
    on_err_from _ c.from_residual.result
    (c.loop-nth.nth, c.index-xs-nth.result, c.loop-nth-test.true, got_there c.args.xs.now c.loop-nth.nth c.index-xs-nth.result c.loop-nth-test.true c.index-xs-nth.is, c.in_err-copy.ensures.cases)
