use Rattle.nd_elements.proofs.NamesFromOtherCrates.{◌<◌, ◌∙◌, refl, sym, subst, slice_get}
use Rattle.nd_elements.specs.along.AccumulateAlongAxis.{TakesRow, ChangesRow, run_at}
use Rattle.nd_elements.proofs.elements_lemmas.MappedElements.{got_item}
use Rattle.nd_elements.proofs.along_lemmas.RowPairs.{row_takes_alike, row_changes_alike}
use Rattle.nd_elements.proofs.along.accumulate_lanes_together.change_rows_contiguous.Goals as goal

pub change_parallel_slice-f-requires-clause-callable : goal.change_parallel_slice-f-requires-clause-callable
change_parallel_slice-f-requires-clause-callable g c =
    let xs = c.run-before.result.now in
    let ys = c.run_mut.result.now in
    let found = c.run_mut.ensures.values in
    subst (λ n. TakesRow g.F.FnMut (slice_get xs) (slice_get ys) n c.args.f) (sym found.0)
    (row_takes_alike g.F.FnMut (run_at c.args.one c.args.p) (slice_get xs) (run_at c.args.other c.args.q) (slice_get ys) c.args.count
    (λ k below. got_item xs k (run_at c.args.one c.args.p k) (subst (λ n. k < n) (sym c.run-before.ensures.0) below) (λ d. c.run-before.ensures.1 k d below))
    (λ k below. got_item ys k (run_at c.args.other c.args.q k) (subst (λ n. k < n) (sym found.0) below) (λ d. found.1 k d below))
    c.args.f c.requires.callable)

pub returns : goal.returns
returns g c =
    let xs = c.run-before.result.now in
    let ys = c.run_mut.result.now in
    let ws = c.change_parallel_slice-f.new.items in
    let found = c.run_mut.ensures.values in (
      ws,
      c.change_parallel_slice-f.ensures.long ∙ found.0,
      refl,
      refl,
      row_changes_alike g.F.FnMut (run_at c.args.one c.args.p) (slice_get xs) (run_at c.args.other c.args.q) (slice_get ys) c.args.count
          (λ k below. got_item xs k (run_at c.args.one c.args.p k) (subst (λ n. k < n) (sym c.run-before.ensures.0) below) (λ d. c.run-before.ensures.1 k d below))
          (λ k below. got_item ys k (run_at c.args.other c.args.q k) (subst (λ n. k < n) (sym found.0) below) (λ d. found.1 k d below))
          (slice_get ws) (slice_get ws) (λ k below. refl) c.args.f c.change_parallel_slice-f.result
          (subst (λ n. ChangesRow g.F.FnMut (slice_get xs) (slice_get ys) (slice_get ws) c.args.f n c.change_parallel_slice-f.result) found.0 c.change_parallel_slice-f.ensures.changed),
    )
