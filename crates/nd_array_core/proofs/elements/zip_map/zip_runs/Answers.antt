use Rattle.nd_array_core.proofs.NamesFromOtherCrates.{◌≡◌, ◌∙◌, [], sym, subst, length, slice_get, place_of, reach_down, inside, stored_at, AnswersAfter, TakesNumbered, indexes_taken, indexes_answered}
use Rattle.nd_elements.specs.ElementsAtNumberedPlaces.{in_turn}
use Rattle.nd_elements.specs.elements.PairMaps.{AnswersPair, MayBeShownPair, pairs_at}
use Rattle.nd_array_core.specs.ArrayMeaning.{meaning_of, memory_layout_of, element_at}
use Rattle.nd_array_core.proofs.elements_lemmas.IndexesInMemoryOrder.{run_numbered, run_shows}
use Rattle.nd_array_core.proofs.elements_lemmas.PairedRuns.{ShowsAlongRun, alike_run, pairs_in_run}
use Rattle.nd_array_core.proofs.elements.zip_map.zip_runs.Goals as goal

pub answer_pairs_slice-requires-clause-callable : goal.answer_pairs_slice-requires-clause-callable
unfolding meaning_of memory_layout_of
answer_pairs_slice-requires-clause-callable g c =
    let array = c.args.array.now in
    let other = c.args.other.now in
    let ns = g.D.Dimension.lengths array.layout.dim in
    let ss = g.D.Strides.StrideList.strides_of array.layout.strides in
    let by = run_numbered ns ss array.layout.as_many c.requires.run in
    let xs = c.run_elements.result.now in
    let ys = c.run_elements-2.result.now in
    let found = pairs_at slice_get (in_turn xs) xs slice_get (in_turn ys) ys in
    subst (TakesNumbered (AnswersPair g.F.FnMut) (MayBeShownPair g.F.FnMut) found c.args.f) (sym c.run_elements.ensures.count)
    (indexes_taken (AnswersPair g.F.FnMut) by.numbered _ found (pairs_in_run ns ss by xs ys (element_at array) (element_at other) c.run_elements.ensures.shifted (alike_run c.requires.alike c.requires.strides ys (element_at other) c.run_elements-2.ensures.shifted))
    (MayBeShownPair g.F.FnMut) c.args.f c.requires.callable)

pub returns-clause-visits : goal.returns-clause-visits
unfolding meaning_of memory_layout_of
returns-clause-visits g c =
    let array = c.args.array.now in
    let other = c.args.other.now in
    let ns = g.D.Dimension.lengths array.layout.dim in
    let ss = g.D.Strides.StrideList.strides_of array.layout.strides in
    let by = run_numbered ns ss array.layout.as_many c.requires.run in
    let xs = c.run_elements.result.now in
    let ys = c.run_elements-2.result.now in
    let found = pairs_at slice_get (in_turn xs) xs slice_get (in_turn ys) ys in
    let items = c.answer_pairs_slice.new.items.items in
    let last = c.answer_pairs_slice.result in
    let down : c.reach_below-below.result ≡ reach_down ns ss = rw (c.slice.ensures.lengths, c.slice-2.ensures) at c.reach_below-below.ensures in
    let seen : ShowsAlongRun ns ss items (element_at c.of_run.result) = λ i. (λ k. inside ns i (stored_at (slice_get items) (place_of (sym down k) ss i))) ∙ sym (c.of_run.ensures.elements i) in
    let empty = subst (λ old. AnswersAfter (AnswersPair g.F.FnMut) found (length xs) old items c.args.f last) c.requires.empty.0 c.answer_pairs_slice.ensures.pushed in
    indexes_answered (AnswersPair g.F.FnMut) by.numbered _ found (pairs_in_run ns ss by xs ys (element_at array) (element_at other) c.run_elements.ensures.shifted (alike_run c.requires.alike c.requires.strides ys (element_at other) c.run_elements-2.ensures.shifted))
    (element_at c.of_run.result) items (λ k below. sym (run_shows ns ss by items (element_at c.of_run.result) seen k below)) c.args.f last
    (subst (λ n. AnswersAfter (AnswersPair g.F.FnMut) found n [] items c.args.f last) c.run_elements.ensures.count empty)
