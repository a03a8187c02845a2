use Rattle.nd_elements.proofs.NamesFromOtherCrates.{◌≡◌, ◌+◌, ◌∙◌, ◌++◌, ap, arith, sym, rules, vec_len, Some, along}
use Rattle.nd_elements.specs.CollectedElements.{collected}
use Rattle.nd_elements.specs.ElementsAtNumberedPlaces.{elements_at}
use Rattle.nd_elements.specs.StoragePlaces.{stored_at}
use Rattle.nd_elements.proofs.elements_lemmas.ElementsCollectedInOrder.{one_after}
use Rattle.nd_elements.proofs.elements.to_vec.clone_strided.Goals as goal

pub loop-nth-preserved : goal.loop-nth-preserved
loop-nth-preserved g c =
    let nth = c.loop-nth.nth in
    let x = c.element.result.now in
    let found = elements_at g.S.Data.stored (along c.args.lane) c.args.storage.now in
    let there : found nth ≡ Some x = ap (stored_at (g.S.Data.stored c.args.storage.now)) (sym c.place_of.ensures) ∙ (sym (c.borrowed-region.ensures c.place_of.result) ∙ c.element.ensures) in
    let so_far = c.loop-nth.invariant in
    let put = c.push_reserved.ensures in (
      one_after found nth c.args.items.items c.loop-nth.items.items c.push_reserved.new.self.items x c.in-Ok.copy so_far.0 put.items (c.requires.clones nth x c.loop-nth-test.true there c.in-Ok.copy c.in-Ok.ensures.cases) there,
      omega (arith, put.len, so_far.1),
      put.capacity ∙ so_far.2,
    )

pub returns-in-Err-clause-room : goal.returns-in-Err-clause-room
returns-in-Err-clause-room g c = c.loop-nth.invariant.2

pub returns-in-Err-clause-kept : goal.returns-in-Err-clause-kept
returns-in-Err-clause-kept g c = (collected (elements_at g.S.Data.stored (along c.args.lane) c.args.storage.now) c.loop-nth.nth, c.loop-nth.invariant.0)

pub returns : goal.returns
returns g c =
    let through : c.loop-nth.nth ≡ c.args.lane.count = omega arith in record {
      items = c.loop-nth.invariant.0 ∙ ap (λ n. c.args.items.items ++ collected (elements_at g.S.Data.stored (along c.args.lane) c.args.storage.now) n) through;
      len = c.loop-nth.invariant.1 ∙ ap (λ n. vec_len c.args.items + n) through;
      room = c.loop-nth.invariant.2;
      kept = search rules;
      refused = search rules;
    }

pub returns-in-Err-clause-refused : goal.returns-in-Err-clause-refused
returns-in-Err-clause-refused g c =
    let x = c.element.result.now in
    let found = elements_at g.S.Data.stored (along c.args.lane) c.args.storage.now in
    (c.loop-nth.nth, x, c.loop-nth-test.true, (ap (stored_at (g.S.Data.stored c.args.storage.now)) (sym c.place_of.ensures) ∙ (sym (c.borrowed-region.ensures c.place_of.result) ∙ c.element.ensures)), c.in-Err.ensures.cases)
