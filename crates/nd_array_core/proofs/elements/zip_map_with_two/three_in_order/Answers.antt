use Rattle.nd_array_core.proofs.NamesFromOtherCrates.{◌≡◌, ◌∙◌, ◌<◌, ◌≤◌, ℕ, List, ap, sym, subst, vec_capacity, RowMajor, size_of, index_at, found_by_rank, order_numbers, indexes_answered, indexes_taken, AnswersAfter, TakesNumbered, []}
use Rattle.nd_array_core.specs.ArrayMeaning.{meaning_of, shape_of, element_at}
use Rattle.nd_array_core.specs.elements.TripleMaps.{AnswersTriple, MayBeShownTriple, ranks_show, tripled_with}
use Rattle.nd_array_core.proofs.along_lemmas.HandedLanes.{found_there}
use Rattle.nd_array_core.proofs.elements_lemmas.ClosuresOnTriples.{triple_alike}
use Rattle.nd_array_core.proofs.elements.zip_map_with_two.three_in_order.Goals as goal

pub answer_three-f-requires-clause-room : goal.answer_three-f-requires-clause-room
answer_three-f-requires-clause-room g c = subst (λ ns. size_of ns ≤ vec_capacity c.args.room) (sym c.laid-ours.ensures.lengths) c.requires.room

pub answer_three-f-requires-clause-callable : goal.answer_three-f-requires-clause-callable
answer_three-f-requires-clause-callable g c =
    let one = c.args.one.now in
    let two = c.args.two.now in
    let three = c.args.three.now in
    let ns = shape_of one in
    let found = ranks_show c.laid-ours.result c.laid-theirs.result c.laid-others.result in
    let at = (tripled_with (meaning_of one) (element_at two) (element_at three)).at in
    let same : (k : ℕ) → k < size_of ns → found k ≡ at (index_at ns k) = λ k below. triple_alike (c.laid-ours.ensures.shows k below)
    (c.laid-theirs.ensures.shows k (subst (λ ms. k < size_of ms) (sym c.requires.two) below) ∙ ap (λ ms. element_at two (index_at ms k)) c.requires.two)
    (c.laid-others.ensures.shows k (subst (λ ms. k < size_of ms) (sym c.requires.three) below) ∙ ap (λ ms. element_at three (index_at ms k)) c.requires.three) in
    subst (λ ms. TakesNumbered (AnswersTriple g.F.FnMut) (MayBeShownTriple g.F.FnMut) found c.args.f (size_of ms)) (sym c.laid-ours.ensures.lengths)
    (indexes_taken (AnswersTriple g.F.FnMut) (order_numbers RowMajor ns) at found same (MayBeShownTriple g.F.FnMut) c.args.f c.requires.callable)

pub returns-clause-visits : goal.returns-clause-visits
returns-clause-visits g c =
    let one = c.args.one.now in
    let two = c.args.two.now in
    let three = c.args.three.now in
    let ns = shape_of one in
    let items = c.answer_three-f.result.1.items in
    let found = ranks_show c.laid-ours.result c.laid-theirs.result c.laid-others.result in
    let at = (tripled_with (meaning_of one) (element_at two) (element_at three)).at in
    let same : (k : ℕ) → k < size_of ns → found k ≡ at (index_at ns k) = λ k below. triple_alike (c.laid-ours.ensures.shows k below)
    (c.laid-theirs.ensures.shows k (subst (λ ms. k < size_of ms) (sym c.requires.two) below) ∙ ap (λ ms. element_at two (index_at ms k)) c.requires.two)
    (c.laid-others.ensures.shows k (subst (λ ms. k < size_of ms) (sym c.requires.three) below) ∙ ap (λ ms. element_at three (index_at ms k)) c.requires.three) in
    let seen : (i : List ℕ) → element_at c.of_items.result i ≡ found_by_rank (ns, RowMajor) items i = λ i. c.of_items.ensures.owns.4 i ∙ (λ k. found_by_rank (c.raw_dim.ensures k, RowMajor) (c.of_items.ensures.stored k) i) in
    indexes_answered (AnswersTriple g.F.FnMut) (order_numbers RowMajor ns) at found same (element_at c.of_items.result) items (λ k below. seen _ ∙ found_there ns items k below) c.args.f c.answer_three-f.result.0
    (subst (λ ms. AnswersAfter (AnswersTriple g.F.FnMut) found (size_of ms) [] items c.args.f c.answer_three-f.result.0) c.laid-ours.ensures.lengths c.answer_three-f.ensures.answers)
