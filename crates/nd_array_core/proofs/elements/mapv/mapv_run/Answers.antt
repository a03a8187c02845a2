use Rattle.nd_array_core.proofs.NamesFromOtherCrates.{◌≡◌, ◌∙◌, ℕ, [], List, sym, subst, length, slice_get, place_of, reach_down, inside, stored_at, AnswersValue, MayBeGiven, AnswersAfter, TakesNumbered, indexes_taken, indexes_answered}
use Rattle.nd_array_core.specs.ArrayMeaning.{meaning_of, memory_layout_of, element_at}
use Rattle.nd_array_core.proofs.reshape_lemmas.MemoryOrder.{lies_clones}
use Rattle.nd_array_core.proofs.elements_lemmas.IndexesInMemoryOrder.{run_numbered, run_shows}
use Rattle.nd_array_core.proofs.elements.mapv.mapv_run.Goals as goal

pub value_slice-requires-clause-callable : goal.value_slice-requires-clause-callable
unfolding meaning_of memory_layout_of
value_slice-requires-clause-callable g c =
    let array = c.args.array.now in
    let ns = g.D.Dimension.lengths array.layout.dim in
    let ss = g.D.Strides.StrideList.strides_of array.layout.strides in
    let by = run_numbered ns ss array.layout.as_many c.requires.run in
    let xs = c.run_elements.result.now in
    subst (TakesNumbered (AnswersValue g.F.FnMut) (MayBeGiven g.F.FnMut) (slice_get xs) c.args.f) (sym c.run_elements.ensures.count)
    (indexes_taken (AnswersValue g.F.FnMut) by.numbered _ (slice_get xs) (run_shows ns ss by xs (element_at array) c.run_elements.ensures.shifted) (MayBeGiven g.F.FnMut) c.args.f c.requires.callable)

pub returns-clause-visits : goal.returns-clause-visits
unfolding meaning_of memory_layout_of
returns-clause-visits g c =
    let array = c.args.array.now in
    let ns = g.D.Dimension.lengths array.layout.dim in
    let ss = g.D.Strides.StrideList.strides_of array.layout.strides in
    let by = run_numbered ns ss array.layout.as_many c.requires.run in
    let xs = c.run_elements.result.now in
    let items = c.value_slice.new.items.items in
    let down : c.reach_below-below.result ≡ reach_down ns ss = rw (c.slice.ensures.lengths, c.slice-2.ensures) at c.reach_below-below.ensures in
    let seen : (i : List ℕ) → inside ns i (stored_at (slice_get items) (place_of (reach_down ns ss) ss i)) ≡ element_at c.of_run.result i = λ i. (λ k. inside ns i (stored_at (slice_get items) (place_of (sym down k) ss i))) ∙ sym (c.of_run.ensures.elements i) in
    let empty = subst (λ old. AnswersAfter (AnswersValue g.F.FnMut) (slice_get xs) (length xs) old items c.args.f c.in_ok-_f._f) c.requires.empty.0 c.in_ok-_f.ensures.pushed in
    let answers = subst (λ n. AnswersAfter (AnswersValue g.F.FnMut) (slice_get xs) n [] items c.args.f c.in_ok-_f._f) c.run_elements.ensures.count empty in
    indexes_answered (AnswersValue g.F.FnMut) by.numbered _ (slice_get xs) (run_shows ns ss by xs (element_at array) c.run_elements.ensures.shifted)
    (element_at c.of_run.result) items (λ k below. sym (run_shows ns ss by items (element_at c.of_run.result) seen k below)) c.args.f c.in_ok-_f._f answers

pub value_slice-requires-clause-clones : goal.value_slice-requires-clause-clones
value_slice-requires-clause-clones g c = lies_clones g.S.Elem.Clone.is_clone c.run_elements.result.now c.run_elements.ensures.order c.requires.clones
