use Rattle.nd_elements.proofs.NamesFromOtherCrates.{◌∙◌, refl, sym, subst, slice_get, along}
use Rattle.nd_elements.specs.elements.PairsWithOneWritten.{TakesPairs}
use Rattle.nd_elements.proofs.elements_lemmas.ElementsCollectedInOrder.{contiguous_has}
use Rattle.nd_elements.proofs.elements_lemmas.RunPairs.{number, side_shows, run_of, run_takes, run_zipped}
use Rattle.nd_elements.proofs.elements.zip_mut_with.zip_contiguous_with_strided.Goals as goal

pub lend_run-requires : goal.lend_run-requires
lend_run-requires g c k below = contiguous_has (g.S.Data.stored c.args.storage.now) c.args.lane.place c.args.lane.count c.args.lane.stride c.requires.step c.requires.holds k below

pub zip_slice_with_strided-requires-clause-callable : goal.zip_slice_with_strided-requires-clause-callable
zip_slice_with_strided-requires-clause-callable g c =
    let lane = c.args.lane in
    let other_lane = (along c.args.other_lane).place in
    let old = g.S.Data.stored c.args.storage.now in
    let others = g.Z.Data.stored c.args.others.now in
    subst (TakesPairs g.F.FnMut (slice_get c.lend_run.result.now) number others other_lane c.args.f) (sym c.lend_run.ensures.values.0)
    (run_takes g.F.FnMut (along lane).place other_lane lane.count old others c.lend_run.result.now others other_lane
    (λ k below. c.lend_run.ensures.values.1 k below ∙ sym (side_shows old lane.place k lane.stride c.requires.step))
    (λ k below. refl)
    c.args.f c.requires.callable)

pub returns-clause-changed : goal.returns-clause-changed
returns-clause-changed g c =
    let lane = c.args.lane in
    let other_lane = (along c.args.other_lane).place in
    let others = g.Z.Data.stored c.args.others.now in
    let ws = c.zip_slice_with_strided.new.xs in
    run_zipped g.F.FnMut (run_of g.S.Data.stored c.args.storage.now (g.S.Data.with_run c.args.storage.now lane.place lane.count ws).0 lane c.requires.step c.requires.holds c.lend_run.result.now ws c.lend_run.ensures.values c.zip_slice_with_strided.ensures.long (g.met.S.DataMut.run_written c.args.storage.now lane.place lane.count ws) (g.met.S.DataMut.run_left c.args.storage.now lane.place lane.count ws)) other_lane others others other_lane (λ k below. refl) c.args.f c.zip_slice_with_strided.result c.zip_slice_with_strided.ensures.changed
