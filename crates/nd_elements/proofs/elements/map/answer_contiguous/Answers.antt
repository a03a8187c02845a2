use Rattle.nd_elements.proofs.NamesFromOtherCrates.{◌≡◌, ◌∙◌, ◌+◌, ◌<◌, ℕ, ap, sym, subst, is_some, slice_get, along}
use Rattle.nd_elements.specs.ElementsAtNumberedPlaces.{elements_at}
use Rattle.nd_elements.specs.elements.ElementMaps.{AnswersElement, MayBeShown, AnswersAfter, TakesNumbered}
use Rattle.nd_elements.proofs.elements_lemmas.ElementsCollectedInOrder.{contiguous_has}
use Rattle.nd_elements.proofs.elements_lemmas.MappedElements.{contiguous_found, after_alike, takes_alike}
use Rattle.nd_elements.proofs.elements.map.answer_contiguous.Goals as goal

pub run-run-requires : goal.run-run-requires
run-run-requires g c k below =
    ap is_some (c.borrowed.ensures (c.args.lane.place + k))
    ∙ contiguous_has (g.S.Data.stored c.args.storage.now) c.args.lane.place c.args.lane.count c.args.lane.stride c.requires.contiguous c.requires.holds k below

pub answer_slice-requires-clause-callable : goal.answer_slice-requires-clause-callable
answer_slice-requires-clause-callable g c =
    let lane = c.args.lane in
    let stored = g.S.Data.stored c.args.storage.now in
    let xs = c.run-run.result.now in
    let same : (k : ℕ) → k < lane.count → slice_get xs k ≡ elements_at g.S.Data.stored (along lane) c.args.storage.now k = contiguous_found stored lane.place lane.count lane.stride c.requires.contiguous xs c.run-run.ensures.count (λ k d below. sym (c.borrowed.ensures (lane.place + k)) ∙ c.run-run.ensures.elements k d below) in
    subst (TakesNumbered (AnswersElement g.F.FnMut) (MayBeShown g.F.FnMut) (slice_get xs) c.args.f) (sym c.run-run.ensures.count)
    (takes_alike (AnswersElement g.F.FnMut) (MayBeShown g.F.FnMut) (slice_get xs) (elements_at g.S.Data.stored (along lane) c.args.storage.now) lane.count same c.args.f c.requires.callable)

pub returns-clause-pushed : goal.returns-clause-pushed
returns-clause-pushed g c =
    let lane = c.args.lane in
    let stored = g.S.Data.stored c.args.storage.now in
    let xs = c.run-run.result.now in
    let same : (k : ℕ) → k < lane.count → slice_get xs k ≡ elements_at g.S.Data.stored (along lane) c.args.storage.now k = contiguous_found stored lane.place lane.count lane.stride c.requires.contiguous xs c.run-run.ensures.count (λ k d below. sym (c.borrowed.ensures (lane.place + k)) ∙ c.run-run.ensures.elements k d below) in
    let many = subst (λ n. AnswersAfter (AnswersElement g.F.FnMut) (slice_get xs) n c.args.items.now.items c.answer_slice.new.items.items c.args.f c.answer_slice.result) c.run-run.ensures.count c.answer_slice.ensures.pushed in
    after_alike (AnswersElement g.F.FnMut) (slice_get xs) (elements_at g.S.Data.stored (along lane) c.args.storage.now) lane.count same c.args.items.now.items c.answer_slice.new.items.items c.args.f c.answer_slice.result many
