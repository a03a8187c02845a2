use Rattle.nd_array_core.proofs.NamesFromOtherCrates.{◌≡◌, ◌∙◌, ℕ, List, sym, subst, index_at, RowMajor, by_rank, placement_of, elements_at, Holds, found_by_rank, AnswersForEach, AnswersElement, MayBeShown, MayShowEach, joined_has, joined_numbers, joined_there, joined_shows, indexes_taken, indexes_answered}
use Rattle.nd_array_core.specs.ArrayMeaning.{meaning_of, element_at}
use Rattle.nd_array_core.proofs.elements.map.map_in_order.Goals as goal

pub answer_places-f-requires-clause-holds : goal.answer_places-f-requires-clause-holds
answer_places-f-requires-clause-holds g c =
    let joined = rw (c.copied-joined.ensures.lengths, c.copied-joined.ensures.strides) at c.join_axes.ensures.joined in
    subst (λ p. Holds g.S.Data.stored (by_rank p) c.args.array.now.storage) (sym c.places.ensures)
    (joined_has (g.S.Data.stored c.args.array.now.storage) _ _ _ _ _ _ (c.join_axes.ensures.offset ∙ c.copied-joined.ensures.offset) joined c.args.array.now.inside)

pub answer_places-f-requires-clause-callable : goal.answer_places-f-requires-clause-callable
unfolding meaning_of
answer_places-f-requires-clause-callable g c =
    let array = c.args.array.now in
    let ns = g.D.Dimension.lengths array.layout.dim in
    let joined = rw (c.copied-joined.ensures.lengths, c.copied-joined.ensures.strides) at c.join_axes.ensures.joined in
    subst (λ p. MayShowEach g.F.FnMut g.S.Data.stored (by_rank p) array.storage c.args.f) (sym c.places.ensures)
    (indexes_taken (AnswersElement g.F.FnMut) (joined_numbers _ _ _ _ joined) _ (elements_at g.S.Data.stored (by_rank (placement_of c.join_axes.new.self)) array.storage) (joined_there _ _ _ _ joined (g.S.Data.stored array.storage) _ _ (c.join_axes.ensures.offset ∙ c.copied-joined.ensures.offset))
    (MayBeShown g.F.FnMut) c.args.f c.requires.callable)

pub returns-clause-visits : goal.returns-clause-visits
unfolding meaning_of
returns-clause-visits g c =
    let array = c.args.array.now in
    let ns = g.D.Dimension.lengths array.layout.dim in
    let joined = rw (c.copied-joined.ensures.lengths, c.copied-joined.ensures.strides) at c.join_axes.ensures.joined in
    let items = c.answer_places-f.result.1.items in
    let answers = subst (λ p. AnswersForEach g.F.FnMut g.S.Data.stored (by_rank p) array.storage c.args.f c.answer_places-f.result) c.places.ensures c.answer_places-f.ensures.answers in
    let seen : (i : List ℕ) → element_at c.of_items.result i ≡ found_by_rank (ns, RowMajor) items i = λ i. c.of_items.ensures.owns.4 i ∙ (λ k. found_by_rank (c.raw_dim.ensures k, RowMajor) (c.of_items.ensures.stored k) i) in
    indexes_answered (AnswersElement g.F.FnMut) (joined_numbers _ _ _ _ joined) _ (elements_at g.S.Data.stored (by_rank (placement_of c.join_axes.new.self)) array.storage) (joined_there _ _ _ _ joined (g.S.Data.stored array.storage) _ _ (c.join_axes.ensures.offset ∙ c.copied-joined.ensures.offset))
    (element_at c.of_items.result) items (λ k below. seen (index_at ns k) ∙ joined_shows _ _ _ _ joined items k below) c.args.f c.answer_places-f.result.0 answers
