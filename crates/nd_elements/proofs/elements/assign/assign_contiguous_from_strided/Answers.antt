use Rattle.nd_elements.proofs.NamesFromOtherCrates.{refl, along}
use Rattle.nd_elements.specs.ElementsAtNumberedPlaces.{elements_at}
use Rattle.nd_elements.proofs.elements_lemmas.ElementsCollectedInOrder.{contiguous_has}
use Rattle.nd_elements.proofs.elements_lemmas.RunPairs.{run_of, run_outcome}
use Rattle.nd_elements.proofs.elements.assign.assign_contiguous_from_strided.Goals as goal

pub lend_run-requires : goal.lend_run-requires
lend_run-requires g c k below = contiguous_has (g.S.Data.stored c.args.storage.now) c.args.lane.place c.args.lane.count c.args.lane.stride c.requires.step c.requires.holds k below

pub returns-clause-outcome : goal.returns-clause-outcome
returns-clause-outcome g c =
    let lane = c.args.lane in
    let ws = c.assign_slice_from_strided.new.xs in
    let given = elements_at g.Z.Data.stored (along c.args.other_lane) c.args.others.now in
    run_outcome (run_of g.S.Data.stored c.args.storage.now (g.S.Data.with_run c.args.storage.now lane.place lane.count ws).0 lane c.requires.step c.requires.holds c.lend_run.result.now ws c.lend_run.ensures.values c.assign_slice_from_strided.ensures.long (g.met.S.DataMut.run_written c.args.storage.now lane.place lane.count ws) (g.met.S.DataMut.run_left c.args.storage.now lane.place lane.count ws)) given given (λ k below. refl) c.assign_slice_from_strided.result c.assign_slice_from_strided.ensures.outcome
