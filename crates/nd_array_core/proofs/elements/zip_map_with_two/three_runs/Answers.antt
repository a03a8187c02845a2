use Rattle.nd_array_core.proofs.NamesFromOtherCrates.{◌≡◌, ◌∙◌, [], sym, subst, length, slice_get, place_of, reach_down, inside, stored_at, AnswersAfter, TakesNumbered, indexes_taken, indexes_answered}
use Rattle.nd_array_core.specs.ArrayMeaning.{meaning_of, memory_layout_of, element_at}
use Rattle.nd_array_core.specs.elements.TripleMaps.{AnswersTriple, MayBeShownTriple, items_show}
use Rattle.nd_array_core.proofs.elements_lemmas.IndexesInMemoryOrder.{run_numbered, run_shows}
use Rattle.nd_array_core.proofs.elements_lemmas.PairedRuns.{ShowsAlongRun, alike_run, triples_in_run}
use Rattle.nd_array_core.proofs.elements.zip_map_with_two.three_runs.Goals as goal

pub answer_slices-requires-clause-callable : goal.answer_slices-requires-clause-callable
unfolding meaning_of memory_layout_of
answer_slices-requires-clause-callable g c =
    let one = c.args.one.now in
    let two = c.args.two.now in
    let three = c.args.three.now in
    let ns = g.D.Dimension.lengths one.layout.dim in
    let ss = g.D.Strides.StrideList.strides_of one.layout.strides in
    let by = run_numbered ns ss one.layout.as_many c.requires.run in
    let xs = c.run_elements.result.now in
    let ys = c.run_elements-2.result.now in
    let zs = c.run_elements-3.result.now in
    let second = alike_run c.requires.two c.requires.strides.0 ys (element_at two) c.run_elements-2.ensures.shifted in
    let third = alike_run c.requires.three c.requires.strides.1 zs (element_at three) c.run_elements-3.ensures.shifted in
    subst (TakesNumbered (AnswersTriple g.F.FnMut) (MayBeShownTriple g.F.FnMut) (items_show xs ys zs) c.args.f) (sym c.run_elements.ensures.count)
    (indexes_taken (AnswersTriple g.F.FnMut) by.numbered _ (items_show xs ys zs) (triples_in_run ns ss by xs ys zs (element_at one) (element_at two) (element_at three) c.run_elements.ensures.shifted second third) (MayBeShownTriple g.F.FnMut) c.args.f c.requires.callable)

pub returns-clause-visits : goal.returns-clause-visits
unfolding meaning_of memory_layout_of
returns-clause-visits g c =
    let one = c.args.one.now in
    let two = c.args.two.now in
    let three = c.args.three.now in
    let ns = g.D.Dimension.lengths one.layout.dim in
    let ss = g.D.Strides.StrideList.strides_of one.layout.strides in
    let by = run_numbered ns ss one.layout.as_many c.requires.run in
    let xs = c.run_elements.result.now in
    let ys = c.run_elements-2.result.now in
    let zs = c.run_elements-3.result.now in
    let second = alike_run c.requires.two c.requires.strides.0 ys (element_at two) c.run_elements-2.ensures.shifted in
    let third = alike_run c.requires.three c.requires.strides.1 zs (element_at three) c.run_elements-3.ensures.shifted in
    let items = c.answer_slices.new.items.items in
    let last = c.answer_slices.result in
    let down : c.reach_below-below.result ≡ reach_down ns ss = rw (c.slice.ensures.lengths, c.slice-2.ensures) at c.reach_below-below.ensures in
    let seen : ShowsAlongRun ns ss items (element_at c.of_run.result) = λ i. (λ k. inside ns i (stored_at (slice_get items) (place_of (sym down k) ss i))) ∙ sym (c.of_run.ensures.elements i) in
    let empty = subst (λ old. AnswersAfter (AnswersTriple g.F.FnMut) (items_show xs ys zs) (length xs) old items c.args.f last) c.requires.empty.0 c.answer_slices.ensures.pushed in
    indexes_answered (AnswersTriple g.F.FnMut) by.numbered _ (items_show xs ys zs) (triples_in_run ns ss by xs ys zs (element_at one) (element_at two) (element_at three) c.run_elements.ensures.shifted second third)
    (element_at c.of_run.result) items (λ k below. sym (run_shows ns ss by items (element_at c.of_run.result) seen k below)) c.args.f last
    (subst (λ n. AnswersAfter (AnswersTriple g.F.FnMut) (items_show xs ys zs) n [] items c.args.f last) c.run_elements.ensures.count empty)
