use Rattle.nd_elements.proofs.NamesFromOtherCrates.{◌+◌, ◌∙◌, ap, sym, subst, arith, along, ranked, go_on, lane_of, all_through}
use Rattle.nd_elements.specs.ElementsAtNumberedPlaces.{elements_at}
use Rattle.nd_elements.specs.StoragePlaces.{stored_at}
use Rattle.nd_elements.specs.elements.ElementFolds.{FoldsElement, FoldsPlaces}
use Rattle.nd_elements.proofs.along_lemmas.LanePart.{lane_holds}
use Rattle.nd_elements.proofs.NumberedCalls.{ran_then}
use Rattle.nd_elements.proofs.elements.fold.fold_lane_by_lane.Goals as goal

pub fold_lane-requires-clause-holds : goal.fold_lane-requires-clause-holds
fold_lane-requires-clause-holds g c = lane_holds c.args.places c.loop-lane.lanes c.in-Some.lane c.loop-lane.invariant.0 c.in-Some.ensures.lane.0 (g.S.Data.stored c.args.storage.now) c.requires.holds

pub fold_lane-requires-clause-callable : goal.fold_lane-requires-clause-callable
fold_lane-requires-clause-callable g c k now below run x is =
    let so_far = c.loop-lane.invariant in
    let lanes = c.loop-lane.lanes in
    let lies = lane_of c.args.places lanes c.in-Some.lane so_far.0 c.in-Some.ensures.lane.0 in
    let stored = g.S.Data.stored c.args.storage.now in
    let found = elements_at g.S.Data.stored (ranked c.args.places) c.args.storage.now in
    let later = elements_at g.S.Data.stored (along c.in-Some.lane) c.args.storage.now in
    c.requires.callable (lanes.rank + k) now (omega (arith, lies.within, below))
    (ran_then (λ p j q. FoldsElement g.F.FnMut (found j) p q) (λ p j q. FoldsElement g.F.FnMut (later j) p q) (c.args.f, c.args.init) (c.loop-lane.f, c.loop-lane.total) now lanes.rank k (λ p j q under step. subst (λ z. FoldsElement g.F.FnMut (stored_at stored z) p q) (lies.places j (omega (arith, under, below))) step) so_far.1 run) x
    (ap (stored_at stored) (sym (lies.places k below)) ∙ is)

pub loop-lane-preserved : goal.loop-lane-preserved
loop-lane-preserved g c =
    let so_far = c.loop-lane.invariant in
    let lanes = c.loop-lane.lanes in
    let lane = c.in-Some.lane in
    let lies = lane_of c.args.places lanes lane so_far.0 c.in-Some.ensures.lane.0 in
    let stored = g.S.Data.stored c.args.storage.now in
    let found = elements_at g.S.Data.stored (ranked c.args.places) c.args.storage.now in
    let later = elements_at g.S.Data.stored (along lane) c.args.storage.now in (
      go_on c.args.places lanes c.next.new.self so_far.0 c.in-Some.ensures.over,
      subst (λ r. FoldsPlaces g.F.FnMut stored (ranked c.args.places).place (c.args.f, c.args.init) r (c.fold_lane.result.0, c.fold_lane.result.1)) (sym c.in-Some.ensures.lane.1)
          (ran_then (λ p j q. FoldsElement g.F.FnMut (found j) p q) (λ p j q. FoldsElement g.F.FnMut (later j) p q) (c.args.f, c.args.init) (c.loop-lane.f, c.loop-lane.total) (c.fold_lane.result.0, c.fold_lane.result.1) lanes.rank lane.count (λ p j q under step. subst (λ z. FoldsElement g.F.FnMut (stored_at stored z) p q) (lies.places j under) step) so_far.1 c.fold_lane.ensures.ran),
    )

pub returns : goal.returns
returns g c =
    let so_far = c.loop-lane.invariant in
    record { ran = subst (λ r. FoldsPlaces g.F.FnMut (g.S.Data.stored c.args.storage.now) (ranked c.args.places).place (c.args.f, c.args.init) r (c.loop-lane.f, c.loop-lane.total)) (all_through c.args.places c.loop-lane.lanes so_far.0 c.in_default.ensures.lane.0) so_far.1 }
