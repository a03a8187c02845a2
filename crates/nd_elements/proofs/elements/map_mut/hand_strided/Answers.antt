use Rattle.nd_elements.proofs.NamesFromOtherCrates.{◌≡◌, ◌∙◌, ap, sym, subst, arith, along}
use Rattle.nd_elements.specs.StoragePlaces.{stored_at}
use Rattle.nd_elements.specs.elements.ElementChanges.{IsChangedBy}
use Rattle.nd_elements.specs.elements.ElementMaps.{Replaces}
use Rattle.nd_elements.specs.elements.ElementMapsMut.{LeavesAndAnswers, Collects}
use Rattle.nd_elements.proofs.elements_lemmas.ElementsHandedToBeWritten.{changed_more}
use Rattle.nd_elements.proofs.elements_lemmas.ReplacedElements.{replaced_ran, still_next}
use Rattle.nd_elements.proofs.elements.map_mut.hand_strided.Goals as goal

pub hand_element-after-requires-clause-callable : goal.hand_element-after-requires-clause-callable
hand_element-after-requires-clause-callable g c x is =
    let place = (along c.args.lane).place in
    let old = g.S.Data.stored c.args.storage.now in
    let now = g.S.Data.stored c.loop-nth.storage in
    let k = c.loop-nth.nth in
    let answers = Collects (LeavesAndAnswers g.F.FnMut) in
    let still = still_next answers place c.args.lane.count k c.loop-nth-test.true c.requires.apart old now (c.args.f, c.args.items.now.items) (c.loop-nth.now, c.loop-nth.items.items) c.loop-nth.invariant.0 in
    c.requires.callable k (c.loop-nth.now, c.loop-nth.items.items) c.loop-nth-test.true (replaced_ran answers place k old now (c.args.f, c.args.items.now.items) (c.loop-nth.now, c.loop-nth.items.items) c.loop-nth.invariant.0) x
    (sym still ∙ (ap (stored_at now) (sym c.place_of.ensures) ∙ is))

pub loop-nth-preserved : goal.loop-nth-preserved
loop-nth-preserved g c =
    let place = (along c.args.lane).place in
    let old = g.S.Data.stored c.args.storage.now in
    let new = g.S.Data.stored c.hand_element-after.new.storage in
    let so_far = c.loop-nth.invariant in
    let step = c.hand_element-after.ensures.called in (
      changed_more (Replaces (Collects (LeavesAndAnswers g.F.FnMut))) place c.loop-nth.nth c.args.lane.count c.place_of.result c.loop-nth-test.true c.requires.apart c.place_of.ensures old (g.S.Data.stored c.loop-nth.storage) new
          (c.args.f, c.args.items.now.items) (c.loop-nth.now, c.loop-nth.items.items) (c.hand_element-after.result.0, c.push_reserved.new.self.items) so_far.0
          (step.0, step.1, (c.hand_element-after.result.1, c.push_reserved.ensures.items, step.2)) c.hand_element-after.ensures.left,
      omega (arith, so_far.1, c.push_reserved.ensures.len),
      c.push_reserved.ensures.capacity ∙ so_far.2,
      c.hand_element-after.ensures.frame ∙ so_far.3,
    )

pub returns-clause-handed : goal.returns-clause-handed
returns-clause-handed g c =
    let all : c.loop-nth.nth ≡ c.args.lane.count = omega (arith, c.loop-nth-test.false, c.loop-nth.auto.nth-end) in
    subst (λ n. IsChangedBy (Replaces (Collects (LeavesAndAnswers g.F.FnMut))) (along c.args.lane).place n (g.S.Data.stored c.args.storage.now) (g.S.Data.stored c.loop-nth.storage) (c.args.f, c.args.items.now.items) (c.loop-nth.now, c.loop-nth.items.items)) all c.loop-nth.invariant.0
