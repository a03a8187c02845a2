use Rattle.nd_elements.proofs.NamesFromOtherCrates.{◌≡◌, ◌<◌, ℕ, sym, subst}
use Rattle.nd_elements.specs.elements.ElementMaps.{AnswersAfter, TakesNumbered}
use Rattle.nd_elements.proofs.elements_lemmas.MappedElements.{after_alike, takes_alike}
use Rattle.nd_array_core.specs.elements.TripleMaps.{AnswersTriple, MayBeShownTriple, items_show, lanes_show}
use Rattle.nd_array_core.proofs.elements_lemmas.ClosuresOnTriples.{triple_alike}
use Rattle.nd_array_core.proofs.elements.zip_map_with_two.answer_contiguous.Goals as goal

pub answer_slices-requires-clause-callable : goal.answer_slices-requires-clause-callable
answer_slices-requires-clause-callable g c =
    let count = c.args.one.now.lane.count in
    let found = items_show c.run.result.now c.run-2.result.now c.run-3.result.now in
    let all = lanes_show c.args.one.now c.args.two.now c.args.three.now in
    let same : (k : ℕ) → k < count → found k ≡ all k = λ k below. triple_alike (c.run.ensures.elements k below) (c.run-2.ensures.elements k (subst (λ n. k < n) (sym c.requires.two) below)) (c.run-3.ensures.elements k (subst (λ n. k < n) (sym c.requires.three) below)) in
    subst (TakesNumbered (AnswersTriple g.F.FnMut) (MayBeShownTriple g.F.FnMut) found c.args.f) (sym c.run.ensures.count)
    (takes_alike (AnswersTriple g.F.FnMut) (MayBeShownTriple g.F.FnMut) found all count same c.args.f c.requires.callable)

pub returns-clause-pushed : goal.returns-clause-pushed
returns-clause-pushed g c =
    let count = c.args.one.now.lane.count in
    let found = items_show c.run.result.now c.run-2.result.now c.run-3.result.now in
    let all = lanes_show c.args.one.now c.args.two.now c.args.three.now in
    let same : (k : ℕ) → k < count → found k ≡ all k = λ k below. triple_alike (c.run.ensures.elements k below) (c.run-2.ensures.elements k (subst (λ n. k < n) (sym c.requires.two) below)) (c.run-3.ensures.elements k (subst (λ n. k < n) (sym c.requires.three) below)) in
    let old = c.args.items.now.items in
    let new = c.answer_slices.new.items.items in
    let many = subst (λ n. AnswersAfter (AnswersTriple g.F.FnMut) found n old new c.args.f c.answer_slices.result) c.run.ensures.count c.answer_slices.ensures.pushed in
    after_alike (AnswersTriple g.F.FnMut) found all count same old new c.args.f c.answer_slices.result many
