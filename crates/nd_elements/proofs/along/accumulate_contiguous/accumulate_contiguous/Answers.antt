use Rattle.nd_elements.proofs.NamesFromOtherCrates.{◌∙◌, ap, pos, sym, add-zero, along}
use Rattle.nd_elements.specs.RunBorrowEnds.{HasRunAt}
use Rattle.nd_elements.proofs.elements_lemmas.ElementsCollectedInOrder.{contiguous_has}
use Rattle.nd_elements.proofs.along_lemmas.AccumulateLaneAsSlice.{run_accumulable, run_accumulated}
use Rattle.nd_elements.proofs.elements_lemmas.RunPairs.{side_place, side_shows, outside_lane}
use Rattle.nd_elements.proofs.along.accumulate_contiguous.accumulate_contiguous.Goals as goal

pub lend_run-requires : goal.lend_run-requires
lend_run-requires g c k below =
    contiguous_has (g.S.Data.stored c.args.storage.now) c.args.lane.place c.args.lane.count c.args.lane.stride c.requires.step c.requires.holds k below

pub accumulate_slice-requires-clause-callable : goal.accumulate_slice-requires-clause-callable
accumulate_slice-requires-clause-callable g c =
    let lane = c.args.lane in
    let old = g.S.Data.stored c.args.storage.now in
    run_accumulable g.F.FnMut (along lane).place lane.count c.requires.some old c.lend_run.result.now c.lend_run.ensures.values.0
    (λ k below. c.lend_run.ensures.values.1 k below ∙ sym (side_shows old lane.place k lane.stride c.requires.step))
    c.args.f c.requires.callable

pub returns-clause-accumulated : goal.returns-clause-accumulated
returns-clause-accumulated g c =
    let lane = c.args.lane in
    let old = g.S.Data.stored c.args.storage.now in
    let ws = c.accumulate_slice.new.items in
    let holds : HasRunAt old lane.place lane.count = λ k below. contiguous_has old lane.place lane.count lane.stride c.requires.step c.requires.holds k below in
    let long = c.accumulate_slice.ensures.long ∙ c.lend_run.ensures.values.0 in
    let new = g.S.Data.stored (g.S.Data.with_run c.args.storage.now lane.place lane.count ws).0 in
    run_accumulated g.F.FnMut (along lane).place lane.count c.requires.some old c.lend_run.result.now c.lend_run.ensures.values.0
    (λ k below. c.lend_run.ensures.values.1 k below ∙ sym (side_shows old lane.place k lane.stride c.requires.step))
    new ws
    (λ k below. sym (g.met.S.DataMut.run_written c.args.storage.now lane.place lane.count ws holds long k below) ∙ sym (side_shows new lane.place k lane.stride c.requires.step))
    (λ p nowhere. g.met.S.DataMut.run_left c.args.storage.now lane.place lane.count ws holds long p (outside_lane lane.place lane.count lane.stride c.requires.step p nowhere))
    lane.place (side_place lane.place 0 lane.stride c.requires.step ∙ ap pos (add-zero lane.place))
    c.args.f c.accumulate_slice.result c.accumulate_slice.ensures.accumulated
