use Rattle.nd_elements.proofs.NamesFromOtherCrates.{◌∙◌, ◌+◌, ◌<◌, ap, sym, subst, is_some, slice_get, slice_get_within, along}
use Rattle.nd_elements.specs.ElementsAtNumberedPlaces.{elements_at}
use Rattle.nd_elements.specs.CollectedElements.{stored_along}
use Rattle.nd_elements.proofs.elements_lemmas.ElementsCollectedInOrder.{contiguous, contiguous_has}
use Rattle.nd_elements.proofs.elements_lemmas.MappedElements.{contiguous_found}
use Rattle.nd_elements.proofs.elements_lemmas.SliceClonesAppended.{run_refuses}
use Rattle.nd_elements.proofs.elements_lemmas.RunPairs.{run_of, run_outcome}
use Rattle.nd_elements.proofs.elements.assign.assign_contiguous.Goals as goal

pub run-ys-requires : goal.run-ys-requires
run-ys-requires g c k below =
    let other_lane = c.args.other_lane in
    ap is_some (c.borrowed.ensures (other_lane.place + k))
    ∙ contiguous_has (g.Z.Data.stored c.args.others.now) other_lane.place other_lane.count other_lane.stride c.requires.steps.1 c.requires.others_hold k below

pub lend_run-requires : goal.lend_run-requires
lend_run-requires g c k below = contiguous_has (g.S.Data.stored c.args.storage.now) c.args.lane.place c.args.lane.count c.args.lane.stride c.requires.steps.0 c.requires.holds k below

pub returns-clause-outcome : goal.returns-clause-outcome
returns-clause-outcome g c =
    let lane = c.args.lane in
    let other_lane = c.args.other_lane in
    let ws = c.assign_slice.new.xs in
    run_outcome (run_of g.S.Data.stored c.args.storage.now (g.S.Data.with_run c.args.storage.now lane.place lane.count ws).0 lane c.requires.steps.0 c.requires.holds c.lend_run.result.now ws c.lend_run.ensures.values c.assign_slice.ensures.long (g.met.S.DataMut.run_written c.args.storage.now lane.place lane.count ws) (g.met.S.DataMut.run_left c.args.storage.now lane.place lane.count ws)) (elements_at g.Z.Data.stored (along other_lane) c.args.others.now) (slice_get c.run-ys.result.now)
    (λ k below. contiguous_found (g.Z.Data.stored c.args.others.now) other_lane.place other_lane.count other_lane.stride c.requires.steps.1 c.run-ys.result.now c.run-ys.ensures.count (λ j d under. sym (c.borrowed.ensures (other_lane.place + j)) ∙ c.run-ys.ensures.elements j d under) k (subst (λ n. k < n) (sym c.requires.as_long) below))
    c.assign_slice.result c.assign_slice.ensures.outcome

pub assign_slice-requires-clause-clones : goal.assign_slice-requires-clause-clones
assign_slice-requires-clause-clones g c k x at =
    let other_lane = c.args.other_lane in
    let below = subst (λ n. k < n) c.run-ys.ensures.count (slice_get_within c.run-ys.result.now k x at) in
    c.requires.clones k x below (sym (contiguous_found (g.Z.Data.stored c.args.others.now) other_lane.place other_lane.count other_lane.stride c.requires.steps.1 c.run-ys.result.now c.run-ys.ensures.count (λ j d under. sym (c.borrowed.ensures (other_lane.place + j)) ∙ c.run-ys.ensures.elements j d under) k below) ∙ at)

pub returns-clause-refused : goal.returns-clause-refused
returns-clause-refused g c =
    let aside = c.args.other_lane in
    let others = g.Z.Data.stored c.args.others.now in
    run_refuses c.run-ys.result.now (stored_along others aside.place aside.stride) aside.count c.run-ys.ensures.count
    (λ k d below. contiguous others aside.place k aside.stride c.requires.steps.1 ∙ (sym (c.borrowed.ensures (aside.place + k)) ∙ c.run-ys.ensures.elements k d below))
    c.assign_slice.result g.A.Clone.is_infallible c.assign_slice.ensures.refused
