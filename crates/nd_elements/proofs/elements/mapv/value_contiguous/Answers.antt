use Rattle.nd_elements.proofs.NamesFromOtherCrates.{◌≡◌, ◌∙◌, ◌+◌, ◌<◌, ℕ, length, ap, sym, subst, IfOk-weaker, is_some, slice_get, slice_get_within, along}
use Rattle.nd_elements.specs.ElementsAtNumberedPlaces.{elements_at}
use Rattle.nd_elements.specs.elements.ElementMaps.{AnswersValue, MayBeGiven, AnswersAfter, TakesNumbered}
use Rattle.nd_elements.proofs.elements_lemmas.ElementsCollectedInOrder.{contiguous, contiguous_has}
use Rattle.nd_elements.proofs.elements_lemmas.MappedElements.{contiguous_found, after_alike, takes_alike}
use Rattle.nd_elements.proofs.elements_lemmas.SliceClonesAppended.{run_refuses}
use Rattle.nd_elements.proofs.elements.mapv.value_contiguous.Goals as goal

pub run-run-requires : goal.run-run-requires
run-run-requires g c k below =
    ap is_some (c.borrowed.ensures (c.args.lane.place + k))
    ∙ contiguous_has (g.S.Data.stored c.args.storage.now) c.args.lane.place c.args.lane.count c.args.lane.stride c.requires.contiguous c.requires.holds k below

pub returns-clause-pushed : goal.returns-clause-pushed
returns-clause-pushed g c =
    let lane = c.args.lane in let stored = g.S.Data.stored c.args.storage.now in let xs = c.run-run.result.now in
    let same : (k : ℕ) → k < lane.count → slice_get xs k ≡ elements_at g.S.Data.stored (along lane) c.args.storage.now k = contiguous_found stored lane.place lane.count lane.stride c.requires.contiguous xs c.run-run.ensures.count (λ k d below. sym (c.borrowed.ensures (lane.place + k)) ∙ c.run-run.ensures.elements k d below) in
    let mapped = λ (last : _) (done : AnswersAfter (AnswersValue g.F.FnMut) (slice_get xs) (length xs) c.args.items.now.items c.value_slice.new.items.items c.args.f last).
    after_alike (AnswersValue g.F.FnMut) (slice_get xs) (elements_at g.S.Data.stored (along lane) c.args.storage.now) lane.count same c.args.items.now.items c.value_slice.new.items.items c.args.f last
    (subst (λ n. AnswersAfter (AnswersValue g.F.FnMut) (slice_get xs) n c.args.items.now.items c.value_slice.new.items.items c.args.f last) c.run-run.ensures.count done) in
    IfOk-weaker c.value_slice.result (λ last. AnswersAfter (AnswersValue g.F.FnMut) (slice_get xs) (length xs) c.args.items.now.items c.value_slice.new.items.items c.args.f last)
    (λ last. AnswersAfter (AnswersValue g.F.FnMut) (elements_at g.S.Data.stored (along lane) c.args.storage.now) lane.count c.args.items.now.items c.value_slice.new.items.items c.args.f last) mapped c.value_slice.ensures.pushed

pub value_slice-requires-clause-clones : goal.value_slice-requires-clause-clones
value_slice-requires-clause-clones g c p x e =
    let lane = c.args.lane in let stored = g.S.Data.stored c.args.storage.now in let xs = c.run-run.result.now in
    let same : (k : ℕ) → k < lane.count → slice_get xs k ≡ elements_at g.S.Data.stored (along lane) c.args.storage.now k = contiguous_found stored lane.place lane.count lane.stride c.requires.contiguous xs c.run-run.ensures.count (λ k d below. sym (c.borrowed.ensures (lane.place + k)) ∙ c.run-run.ensures.elements k d below) in
    let below = subst (λ n. p < n) c.run-run.ensures.count (slice_get_within xs p x e) in
    c.requires.clones p x below (sym (same p below) ∙ e)

pub value_slice-requires-clause-callable : goal.value_slice-requires-clause-callable
value_slice-requires-clause-callable g c =
    let lane = c.args.lane in let stored = g.S.Data.stored c.args.storage.now in let xs = c.run-run.result.now in
    let same : (k : ℕ) → k < lane.count → slice_get xs k ≡ elements_at g.S.Data.stored (along lane) c.args.storage.now k = contiguous_found stored lane.place lane.count lane.stride c.requires.contiguous xs c.run-run.ensures.count (λ k d below. sym (c.borrowed.ensures (lane.place + k)) ∙ c.run-run.ensures.elements k d below) in
    subst (TakesNumbered (AnswersValue g.F.FnMut) (MayBeGiven g.F.FnMut) (slice_get xs) c.args.f) (sym c.run-run.ensures.count)
    (takes_alike (AnswersValue g.F.FnMut) (MayBeGiven g.F.FnMut) (slice_get xs) (elements_at g.S.Data.stored (along lane) c.args.storage.now) lane.count same c.args.f c.requires.callable)

pub returns-clause-refused : goal.returns-clause-refused
returns-clause-refused g c =
    let lane = c.args.lane in
    run_refuses c.run-run.result.now (elements_at g.S.Data.stored (along lane) c.args.storage.now) lane.count c.run-run.ensures.count
    (λ k d below. contiguous (g.S.Data.stored c.args.storage.now) lane.place k lane.stride c.requires.contiguous ∙ (sym (c.borrowed.ensures (lane.place + k)) ∙ c.run-run.ensures.elements k d below))
    c.value_slice.result g.S.Elem.Clone.is_infallible c.value_slice.ensures.refused
