use Rattle.nd_array_core.proofs.NamesFromOtherCrates.{◌≡◌, ◌∙◌, ℕ, [], List, sym, subst, length, slice_get, place_of, reach_down, inside, stored_at, AnswersElement, MayBeShown, AnswersAfter, TakesNumbered, indexes_taken, indexes_answered}
use Rattle.nd_array_core.specs.ArrayMeaning.{meaning_of, memory_layout_of, element_at}
use Rattle.nd_array_core.proofs.elements_lemmas.IndexesInMemoryOrder.{run_numbered, run_shows}
use Rattle.nd_array_core.proofs.elements.map.map_run.Goals as goal

pub answer_slice-requires-clause-callable : goal.answer_slice-requires-clause-callable
unfolding meaning_of memory_layout_of
answer_slice-requires-clause-callable g c =
    let array = c.args.array.now in
    let ns = g.D.Dimension.lengths array.layout.dim in
    let ss = g.D.Strides.StrideList.strides_of array.layout.strides in
    let by = run_numbered ns ss array.layout.as_many c.requires.run in
    let xs = c.run_elements.result.now in
    subst (TakesNumbered (AnswersElement g.F.FnMut) (MayBeShown g.F.FnMut) (slice_get xs) c.args.f) (sym c.run_elements.ensures.count)
    (indexes_taken (AnswersElement g.F.FnMut) by.numbered _ (slice_get xs) (run_shows ns ss by xs (element_at array) c.run_elements.ensures.shifted) (MayBeShown g.F.FnMut) c.args.f c.requires.callable)

pub returns-clause-visits : goal.returns-clause-visits
unfolding meaning_of memory_layout_of
returns-clause-visits g c =
    let array = c.args.array.now in
    let ns = g.D.Dimension.lengths array.layout.dim in
    let ss = g.D.Strides.StrideList.strides_of array.layout.strides in
    let by = run_numbered ns ss array.layout.as_many c.requires.run in
    let xs = c.run_elements.result.now in
    let items = c.answer_slice.new.items.items in
    let down : c.reach_below-below.result ≡ reach_down ns ss = rw (c.slice.ensures.lengths, c.slice-2.ensures) at c.reach_below-below.ensures in
    let seen : (i : List ℕ) → inside ns i (stored_at (slice_get items) (place_of (reach_down ns ss) ss i)) ≡ element_at c.of_run.result i = λ i. (λ k. inside ns i (stored_at (slice_get items) (place_of (sym down k) ss i))) ∙ sym (c.of_run.ensures.elements i) in
    let empty = subst (λ old. AnswersAfter (AnswersElement g.F.FnMut) (slice_get xs) (length xs) old items c.args.f c.answer_slice.result) c.requires.empty.0 c.answer_slice.ensures.pushed in
    let answers = subst (λ n. AnswersAfter (AnswersElement g.F.FnMut) (slice_get xs) n [] items c.args.f c.answer_slice.result) c.run_elements.ensures.count empty in
    indexes_answered (AnswersElement g.F.FnMut) by.numbered _ (slice_get xs) (run_shows ns ss by xs (element_at array) c.run_elements.ensures.shifted)
    (element_at c.of_run.result) items (λ k below. sym (run_shows ns ss by items (element_at c.of_run.result) seen k below)) c.args.f c.answer_slice.result answers
