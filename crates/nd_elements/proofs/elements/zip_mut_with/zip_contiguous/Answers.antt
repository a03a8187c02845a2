use Rattle.nd_elements.proofs.NamesFromOtherCrates.{◌∙◌, ◌+◌, ◌<◌, ap, sym, subst, is_some, slice_get, along}
use Rattle.nd_elements.specs.elements.PairsWithOneWritten.{TakesPairs}
use Rattle.nd_elements.proofs.elements_lemmas.ElementsCollectedInOrder.{contiguous_has}
use Rattle.nd_elements.proofs.elements_lemmas.MappedElements.{contiguous_found}
use Rattle.nd_elements.proofs.elements_lemmas.RunPairs.{number, side_shows, run_of, run_takes, run_zipped}
use Rattle.nd_elements.proofs.elements.zip_mut_with.zip_contiguous.Goals as goal

pub run-ys-requires : goal.run-ys-requires
run-ys-requires g c k below =
    let other_lane = c.args.other_lane in
    ap is_some (c.borrowed.ensures (other_lane.place + k))
    ∙ contiguous_has (g.Z.Data.stored c.args.others.now) other_lane.place other_lane.count other_lane.stride c.requires.steps.1 c.requires.others_hold k below

pub lend_run-requires : goal.lend_run-requires
lend_run-requires g c k below = contiguous_has (g.S.Data.stored c.args.storage.now) c.args.lane.place c.args.lane.count c.args.lane.stride c.requires.steps.0 c.requires.holds k below

pub zip_slice-requires-clause-callable : goal.zip_slice-requires-clause-callable
zip_slice-requires-clause-callable g c =
    let lane = c.args.lane in
    let other_lane = c.args.other_lane in
    let old = g.S.Data.stored c.args.storage.now in
    let others = g.Z.Data.stored c.args.others.now in
    subst (TakesPairs g.F.FnMut (slice_get c.lend_run.result.now) number (slice_get c.run-ys.result.now) number c.args.f) (sym c.lend_run.ensures.values.0)
    (run_takes g.F.FnMut (along lane).place (along other_lane).place lane.count old others c.lend_run.result.now (slice_get c.run-ys.result.now) number
    (λ k below. c.lend_run.ensures.values.1 k below ∙ sym (side_shows old lane.place k lane.stride c.requires.steps.0))
    (λ k below. contiguous_found others other_lane.place other_lane.count other_lane.stride c.requires.steps.1 c.run-ys.result.now c.run-ys.ensures.count (λ j d under. sym (c.borrowed.ensures (other_lane.place + j)) ∙ c.run-ys.ensures.elements j d under) k (subst (λ n. k < n) (sym c.requires.as_long) below))
    c.args.f c.requires.callable)

pub returns-clause-changed : goal.returns-clause-changed
returns-clause-changed g c =
    let lane = c.args.lane in
    let other_lane = c.args.other_lane in
    let others = g.Z.Data.stored c.args.others.now in
    let ws = c.zip_slice.new.xs in
    run_zipped g.F.FnMut (run_of g.S.Data.stored c.args.storage.now (g.S.Data.with_run c.args.storage.now lane.place lane.count ws).0 lane c.requires.steps.0 c.requires.holds c.lend_run.result.now ws c.lend_run.ensures.values c.zip_slice.ensures.long (g.met.S.DataMut.run_written c.args.storage.now lane.place lane.count ws) (g.met.S.DataMut.run_left c.args.storage.now lane.place lane.count ws)) (along other_lane).place others (slice_get c.run-ys.result.now) number
    (λ k below. contiguous_found others other_lane.place other_lane.count other_lane.stride c.requires.steps.1 c.run-ys.result.now c.run-ys.ensures.count (λ j d under. sym (c.borrowed.ensures (other_lane.place + j)) ∙ c.run-ys.ensures.elements j d under) k (subst (λ n. k < n) (sym c.requires.as_long) below))
    c.args.f c.zip_slice.result c.zip_slice.ensures.changed
