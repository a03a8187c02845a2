use Rattle.nd_elements.proofs.NamesFromOtherCrates.{[], ap, sym, subst, arith, ◌∙◌, vec_len, vec_capacity, along, ranked, go_on, lane_of, all_through}
use Rattle.nd_elements.specs.ElementsAtNumberedPlaces.{elements_at}
use Rattle.nd_elements.specs.StoragePlaces.{stored_at}
use Rattle.nd_elements.specs.elements.ElementMaps.{AnswersValue, MayBeGiven, AnswersAfter}
use Rattle.nd_elements.proofs.along_lemmas.LanePart.{lane_clones, lane_holds, lane_refused, room_first}
use Rattle.nd_elements.proofs.elements_lemmas.MappedElements.{after_none, after_ran, after_then, takes_later}
use Rattle.nd_elements.proofs.elements.mapv.value_places.Goals as goal

pub value_lane-requires-clause-clones : goal.value_lane-requires-clause-clones
value_lane-requires-clause-clones g c = lane_clones c.args.places c.loop-lane.lanes c.in-Some.lane c.loop-lane.invariant.0 c.in-Some.ensures.lane.0 (g.S.Data.stored c.args.storage.now) g.S.Elem.Clone.is_clone c.requires.clones

pub value_lane-requires-clause-holds : goal.value_lane-requires-clause-holds
value_lane-requires-clause-holds g c = lane_holds c.args.places c.loop-lane.lanes c.in-Some.lane c.loop-lane.invariant.0 c.in-Some.ensures.lane.0 (g.S.Data.stored c.args.storage.now) c.requires.holds

pub value_lane-requires-clause-room : goal.value_lane-requires-clause-room
value_lane-requires-clause-room g c = room_first c.args.places c.loop-lane.lanes c.in-Some.lane c.loop-lane.invariant.0 c.in-Some.ensures.lane.0 (vec_len c.loop-lane.items) (vec_capacity c.loop-lane.items) c.loop-lane.invariant.2 c.loop-lane.invariant.3

pub value_lane-requires-clause-callable : goal.value_lane-requires-clause-callable
value_lane-requires-clause-callable g c =
    let found = elements_at g.S.Data.stored (ranked c.args.places) c.args.storage.now in
    let lies = lane_of c.args.places c.loop-lane.lanes c.in-Some.lane c.loop-lane.invariant.0 c.in-Some.ensures.lane.0 in
    takes_later (AnswersValue g.F.FnMut) (MayBeGiven g.F.FnMut) found (elements_at g.S.Data.stored (along c.in-Some.lane) c.args.storage.now) c.loop-lane.lanes.rank c.in-Some.lane.count (ranked c.args.places).count lies.within
    (λ j below. ap (stored_at (g.S.Data.stored c.args.storage.now)) (lies.places j below)) c.args.f c.loop-lane.now
    (after_ran (AnswersValue g.F.FnMut) found c.loop-lane.lanes.rank [] c.loop-lane.items.items c.args.f c.loop-lane.now c.loop-lane.invariant.1) c.requires.callable

pub loop-lane-preserved : goal.loop-lane-preserved
loop-lane-preserved g c =
    let so_far = c.loop-lane.invariant in let lanes = c.loop-lane.lanes in let lane = c.in-Some.lane in let given = c.in-Some.ensures.lane in
    let found = elements_at g.S.Data.stored (ranked c.args.places) c.args.storage.now in
    let lies = lane_of c.args.places lanes lane so_far.0 given.0 in (
      go_on c.args.places lanes c.next.new.self so_far.0 c.in-Some.ensures.over,
      subst (λ r. AnswersAfter (AnswersValue g.F.FnMut) found r [] c.value_lane.new.items.items c.args.f c.in-Ok.later) (sym given.1)
          (after_then (AnswersValue g.F.FnMut) found (elements_at g.S.Data.stored (along lane) c.args.storage.now) lanes.rank lane.count (λ j below. ap (stored_at (g.S.Data.stored c.args.storage.now)) (lies.places j below))
          [] c.loop-lane.items.items c.value_lane.new.items.items c.args.f c.loop-lane.now c.in-Ok.later so_far.1 c.in-Ok.ensures.pushed),
      (let e = so_far.2 in let l = c.in-Ok.ensures.len in let n = given.1 in omega (arith, e, l, n)),
      (let e = so_far.3 in let l = c.in-Ok.ensures.room in omega (arith, e, l)),
    )

pub returns-clause-answers : goal.returns-clause-answers
returns-clause-answers g c =
    let so_far = c.loop-lane.invariant in let found = elements_at g.S.Data.stored (ranked c.args.places) c.args.storage.now in
    subst (λ n. AnswersAfter (AnswersValue g.F.FnMut) found n [] c.loop-lane.items.items c.args.f c.loop-lane.now) (all_through c.args.places c.loop-lane.lanes so_far.0 c.in_default.ensures.lane.0) so_far.1

pub returns-in-Err-clause-refused : goal.returns-in-Err-clause-refused
returns-in-Err-clause-refused g c =
    lane_refused c.args.places c.loop-lane.lanes c.in-Some.lane c.loop-lane.invariant.0 c.in-Some.ensures.lane.0 (g.S.Data.stored c.args.storage.now) g.S.Elem.Clone.is_infallible c.in-Err.ensures.refused

pub returns-clause-count : goal.returns-clause-count
returns-clause-count g c = let so_far = c.loop-lane.invariant in so_far.2 ∙ all_through c.args.places c.loop-lane.lanes so_far.0 c.in_default.ensures.lane.0

pub loop-lane-init : goal.loop-lane-init
loop-lane-init g c =
    let found = elements_at g.S.Data.stored (ranked c.args.places) c.args.storage.now in
    let start = sym c.lanes-lanes.ensures.rank in (
      c.lanes-lanes.ensures.over,
      subst (λ r. AnswersAfter (AnswersValue g.F.FnMut) found r [] c.args.room.items c.args.f c.args.f) start
          (subst (λ xs. AnswersAfter (AnswersValue g.F.FnMut) found 0 [] xs c.args.f c.args.f) (sym c.requires.empty.0) (after_none (AnswersValue g.F.FnMut) found [] c.args.f)),
      c.requires.empty.1 ∙ start,
      c.requires.room,
    )
