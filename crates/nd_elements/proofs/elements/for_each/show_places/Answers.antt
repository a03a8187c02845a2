use Rattle.nd_elements.proofs.NamesFromOtherCrates.{ap, sym, subst, along, ranked, go_on, lane_of, all_through}
use Rattle.nd_elements.specs.ElementsAtNumberedPlaces.{elements_at}
use Rattle.nd_elements.specs.StoragePlaces.{stored_at}
use Rattle.nd_elements.specs.elements.ElementMaps.{AnswersElement, MayBeShown, RanNumbered}
use Rattle.nd_elements.proofs.along_lemmas.LanePart.{lane_holds}
use Rattle.nd_elements.proofs.elements_lemmas.MappedElements.{ran_later, takes_later}
use Rattle.nd_elements.proofs.elements.for_each.show_places.Goals as goal

pub show_lane-now-requires-clause-holds : goal.show_lane-now-requires-clause-holds
show_lane-now-requires-clause-holds g c = lane_holds c.args.places c.loop-lane.lanes c.in-Some.lane c.loop-lane.invariant.0 c.in-Some.ensures.lane.0 (g.S.Data.stored c.args.storage.now) c.requires.holds

pub show_lane-now-requires-clause-callable : goal.show_lane-now-requires-clause-callable
show_lane-now-requires-clause-callable g c =
    let lanes = c.loop-lane.lanes in
    let lane = c.in-Some.lane in
    let at = ranked c.args.places in
    let lies = lane_of c.args.places lanes lane c.loop-lane.invariant.0 c.in-Some.ensures.lane.0 in
    takes_later (AnswersElement g.F.FnMut) (MayBeShown g.F.FnMut) (elements_at g.S.Data.stored at c.args.storage.now) (elements_at g.S.Data.stored (along lane) c.args.storage.now) lanes.rank lane.count at.count lies.within
    (λ j below. ap (stored_at (g.S.Data.stored c.args.storage.now)) (lies.places j below)) c.args.f c.loop-lane.now c.loop-lane.invariant.1 c.requires.callable

pub loop-lane-preserved : goal.loop-lane-preserved
loop-lane-preserved g c =
    let so_far = c.loop-lane.invariant in
    let lanes = c.loop-lane.lanes in
    let lane = c.in-Some.lane in
    let lies = lane_of c.args.places lanes lane so_far.0 c.in-Some.ensures.lane.0 in
    let stored = g.S.Data.stored c.args.storage.now in
    let found = elements_at g.S.Data.stored (ranked c.args.places) c.args.storage.now in (
      go_on c.args.places lanes c.next.new.self so_far.0 c.in-Some.ensures.over,
      subst (λ r. RanNumbered (AnswersElement g.F.FnMut) found c.args.f r c.show_lane-now.result) (sym c.in-Some.ensures.lane.1)
          (ran_later (AnswersElement g.F.FnMut) found (elements_at g.S.Data.stored (along lane) c.args.storage.now) lanes.rank lane.count (λ j below. ap (stored_at stored) (lies.places j below)) c.args.f c.loop-lane.now c.show_lane-now.result so_far.1 c.show_lane-now.ensures.ran),
    )

pub returns : goal.returns
returns g c =
    let so_far = c.loop-lane.invariant in
    record { ran = subst (λ r. RanNumbered (AnswersElement g.F.FnMut) (elements_at g.S.Data.stored (ranked c.args.places) c.args.storage.now) c.args.f r c.loop-lane.now) (all_through c.args.places c.loop-lane.lanes so_far.0 c.in_default.ensures.lane.0) so_far.1 }
