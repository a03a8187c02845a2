use Rattle.nd_elements.proofs.NamesFromOtherCrates.{◌≡◌, ◌<◌, ℕ, sym, subst}
use Rattle.std.specs.Prelude.{IfSome}
use Rattle.nd_elements.specs.elements.ElementMaps.{AnswersAfter, TakesNumbered}
use Rattle.nd_elements.proofs.elements_lemmas.MappedElements.{after_alike, takes_alike}
use Rattle.nd_array_core.specs.elements.TripleMaps.{AnswersTriple, MayBeShownTriple, lane_shows, lanes_show}
use Rattle.nd_array_core.proofs.elements_lemmas.ClosuresOnTriples.{triple_alike}
use Rattle.nd_array_core.proofs.elements.zip_map_with_two.answer_strided.Goals as goal

pub answer_by_places-requires-clause-callable : goal.answer_by_places-requires-clause-callable
answer_by_places-requires-clause-callable g c =
    let one = c.args.one.now in
    let two = c.args.two.now in
    let three = c.args.three.now in
    let given = c.in-Some-Some-Some in
    let count = subst (λ o. IfSome o (λ s. s.lane.count ≡ one.lane.count)) given.is-0 c.of_one_slice.ensures.count in
    let ours = subst (λ o. IfSome o (λ s. (k : ℕ) → lane_shows s k ≡ lane_shows one k)) given.is-0 c.of_one_slice.ensures.elements in
    let second = subst (λ o. IfSome o (λ s. (k : ℕ) → lane_shows s k ≡ lane_shows two k)) given.is-1 c.of_one_slice-2.ensures.elements in
    let third = subst (λ o. IfSome o (λ s. (k : ℕ) → lane_shows s k ≡ lane_shows three k)) given.is-2 c.of_one_slice-3.ensures.elements in
    let found = lanes_show given.xs given.ys given.zs in
    let same : (k : ℕ) → k < one.lane.count → found k ≡ lanes_show one two three k = λ k below. triple_alike (ours k) (second k) (third k) in
    subst (TakesNumbered (AnswersTriple g.F.FnMut) (MayBeShownTriple g.F.FnMut) found c.args.f) (sym count)
    (takes_alike (AnswersTriple g.F.FnMut) (MayBeShownTriple g.F.FnMut) found (lanes_show one two three) one.lane.count same c.args.f c.requires.callable)

pub returns-in-Some-Some-Some-clause-pushed : goal.returns-in-Some-Some-Some-clause-pushed
returns-in-Some-Some-Some-clause-pushed g c =
    let one = c.args.one.now in
    let two = c.args.two.now in
    let three = c.args.three.now in
    let given = c.in-Some-Some-Some in
    let count = subst (λ o. IfSome o (λ s. s.lane.count ≡ one.lane.count)) given.is-0 c.of_one_slice.ensures.count in
    let ours = subst (λ o. IfSome o (λ s. (k : ℕ) → lane_shows s k ≡ lane_shows one k)) given.is-0 c.of_one_slice.ensures.elements in
    let second = subst (λ o. IfSome o (λ s. (k : ℕ) → lane_shows s k ≡ lane_shows two k)) given.is-1 c.of_one_slice-2.ensures.elements in
    let third = subst (λ o. IfSome o (λ s. (k : ℕ) → lane_shows s k ≡ lane_shows three k)) given.is-2 c.of_one_slice-3.ensures.elements in
    let found = lanes_show given.xs given.ys given.zs in
    let same : (k : ℕ) → k < one.lane.count → found k ≡ lanes_show one two three k = λ k below. triple_alike (ours k) (second k) (third k) in
    let old = c.args.items.now.items in
    let new = c.answer_by_places.new.items.items in
    after_alike (AnswersTriple g.F.FnMut) found (lanes_show one two three) one.lane.count same old new c.args.f c.answer_by_places.result
    (subst (λ n. AnswersAfter (AnswersTriple g.F.FnMut) found n old new c.args.f c.answer_by_places.result) count c.answer_by_places.ensures.pushed)
