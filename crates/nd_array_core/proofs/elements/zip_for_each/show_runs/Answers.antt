use Rattle.nd_array_core.proofs.NamesFromOtherCrates.{sym, subst, slice_get, TakesNumbered, indexes_taken, indexes_visited}
use Rattle.nd_elements.specs.ElementsAtNumberedPlaces.{in_turn}
use Rattle.nd_elements.specs.elements.ElementMaps.{RanNumbered}
use Rattle.nd_elements.specs.elements.PairMaps.{AnswersPair, MayBeShownPair, pairs_at}
use Rattle.nd_array_core.specs.ArrayMeaning.{meaning_of, memory_layout_of, element_at}
use Rattle.nd_array_core.proofs.elements_lemmas.IndexesInMemoryOrder.{run_numbered}
use Rattle.nd_array_core.proofs.elements_lemmas.PairedRuns.{alike_run, pairs_in_run}
use Rattle.nd_array_core.proofs.elements.zip_for_each.show_runs.Goals as goal

pub show_pairs_slice-requires-clause-callable : goal.show_pairs_slice-requires-clause-callable
unfolding meaning_of memory_layout_of
show_pairs_slice-requires-clause-callable g c =
    let array = c.args.array.now in
    let other = c.args.other.now in
    let ns = g.D.Dimension.lengths array.layout.dim in
    let ss = g.D.Strides.StrideList.strides_of array.layout.strides in
    let by = run_numbered ns ss array.layout.as_many c.requires.run in
    let xs = c.run_elements.result.now in
    let ys = c.run_elements-2.result.now in
    let found = pairs_at slice_get (in_turn xs) xs slice_get (in_turn ys) ys in
    subst (TakesNumbered (AnswersPair g.F.FnMut) (MayBeShownPair g.F.FnMut) found c.args.f) (sym c.run_elements.ensures.count)
    (indexes_taken (AnswersPair g.F.FnMut) by.numbered _ found (pairs_in_run ns ss by xs ys (element_at array) (element_at other) c.run_elements.ensures.shifted (alike_run c.requires.alike c.requires.strides ys (element_at other) c.run_elements-2.ensures.shifted))
    (MayBeShownPair g.F.FnMut) c.args.f c.requires.callable)

pub returns : goal.returns
unfolding meaning_of memory_layout_of
returns g c =
    let array = c.args.array.now in
    let other = c.args.other.now in
    let ns = g.D.Dimension.lengths array.layout.dim in
    let ss = g.D.Strides.StrideList.strides_of array.layout.strides in
    let by = run_numbered ns ss array.layout.as_many c.requires.run in
    let xs = c.run_elements.result.now in
    let ys = c.run_elements-2.result.now in
    let found = pairs_at slice_get (in_turn xs) xs slice_get (in_turn ys) ys in
    let last = c.show_pairs_slice.result in
    record {
      visits = (
        last,
        indexes_visited (AnswersPair g.F.FnMut) by.numbered _ found (pairs_in_run ns ss by xs ys (element_at array) (element_at other) c.run_elements.ensures.shifted (alike_run c.requires.alike c.requires.strides ys (element_at other) c.run_elements-2.ensures.shifted))
            c.args.f last (subst (λ n. RanNumbered (AnswersPair g.F.FnMut) found c.args.f n last) c.run_elements.ensures.count c.show_pairs_slice.ensures.ran),
      );
    }
