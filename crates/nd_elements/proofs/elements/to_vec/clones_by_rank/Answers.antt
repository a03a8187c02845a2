use Rattle.nd_elements.proofs.NamesFromOtherCrates.{◌≡◌, ◌∙◌, subst, arith, ap, ◌++◌, ◌+◌, sym, ◌≤◌, rules, vec_len, vec_capacity, ranked, go_on, lane_of, all_through}
use Rattle.nd_elements.proofs.BoolAndResultCases.{there, refused}
use Rattle.nd_elements.specs.CollectedElements.{collected}
use Rattle.nd_elements.specs.ElementsAtNumberedPlaces.{elements_at}
use Rattle.nd_elements.proofs.elements_lemmas.ElementsCollectedInOrder.{lane_after}
use Rattle.nd_elements.proofs.elements_lemmas.ListedHalves.{front_again}
use Rattle.nd_elements.proofs.along_lemmas.LanePart.{lane_refused, lane_clones, lane_holds, room_after}
use Rattle.nd_elements.proofs.elements.to_vec.clones_by_rank.Goals as goal

pub loop-lane-preserved : goal.loop-lane-preserved
loop-lane-preserved g c =
    let so_far = c.loop-lane.invariant in let end = c.clones_of_lane-longer.result.1 in let done = c.clones_of_lane-longer.ensures in
    let places = c.args.places in let lanes = c.loop-lane.lanes in let lane = c.in-Some.lane in let given = c.in-Some.ensures.lane in
    let lies = lane_of places lanes lane so_far.0 given.0 in (
      go_on places lanes c.next.new.self so_far.0 c.in-Some.ensures.over,
      lane_after (g.S.Data.stored c.args.storage.now) places.first places.lengths.now places.strides.now c.args.items.items c.loop-lane.items.items c.clones_of_lane-longer.result.0.items lanes.rank c.next.new.self.rank lane.place lane.count lane.stride lies given.1 so_far.1 (there end c.in-Ok.field-0 c.in-Ok.is done.items),
      (let e = so_far.2 in let l = there end c.in-Ok.field-0 c.in-Ok.is done.len in let n = given.1 in omega (arith, e, l, n)),
      done.room ∙ so_far.3,
    )

pub returns-in-Err-clause-room : goal.returns-in-Err-clause-room
returns-in-Err-clause-room g c = c.clones_of_lane-longer.ensures.room ∙ c.loop-lane.invariant.3

pub returns-in-Err-clause-kept : goal.returns-in-Err-clause-kept
returns-in-Err-clause-kept g c =
    front_again c.args.items.items (collected (elements_at g.S.Data.stored (ranked c.args.places) c.args.storage.now) c.loop-lane.lanes.rank) c.loop-lane.items.items c.clones_of_lane-longer.result.0.items c.loop-lane.invariant.1
    (refused c.clones_of_lane-longer.result.1 c.in-Err.refused c.in-Err.is c.clones_of_lane-longer.ensures.kept)

pub returns-in-Err-clause-refused : goal.returns-in-Err-clause-refused
returns-in-Err-clause-refused g c =
    lane_refused c.args.places c.loop-lane.lanes c.in-Some.lane c.loop-lane.invariant.0 c.in-Some.ensures.lane.0 (g.S.Data.stored c.args.storage.now) g.S.Elem.Clone.is_infallible
    (refused c.clones_of_lane-longer.result.1 c.in-Err.refused c.in-Err.is c.clones_of_lane-longer.ensures.refused)

pub returns : goal.returns
returns g c =
    let so_far = c.loop-lane.invariant in record {
      items = subst (λ r. c.loop-lane.items.items ≡ c.args.items.items ++ collected (elements_at g.S.Data.stored (ranked c.args.places) c.args.storage.now) r) (all_through c.args.places c.loop-lane.lanes so_far.0 c.in_default.ensures.lane.0) so_far.1;
      len = so_far.2 ∙ ap (λ r. vec_len c.args.items + r) (all_through c.args.places c.loop-lane.lanes so_far.0 c.in_default.ensures.lane.0);
      room = c.loop-lane.invariant.3;
      kept = search rules;
      refused = search rules;
    }

pub clones_of_lane-longer-requires-clause-holds : goal.clones_of_lane-longer-requires-clause-holds
clones_of_lane-longer-requires-clause-holds g c = lane_holds c.args.places c.loop-lane.lanes c.in-Some.lane c.loop-lane.invariant.0 c.in-Some.ensures.lane.0 (g.S.Data.stored c.args.storage.now) c.requires.holds

pub clones_of_lane-longer-requires-clause-room : goal.clones_of_lane-longer-requires-clause-room
clones_of_lane-longer-requires-clause-room g c =
    let so_far = c.loop-lane.invariant in
    room_after c.args.places c.loop-lane.lanes c.in-Some.lane c.loop-lane.invariant.0 c.in-Some.ensures.lane.0 (vec_len c.args.items) (vec_len c.loop-lane.items) (vec_capacity c.loop-lane.items) so_far.2 (subst (λ m. vec_len c.args.items + (ranked c.args.places).count ≤ m) (sym so_far.3) c.requires.room)

pub clones_of_lane-longer-requires-clause-clones : goal.clones_of_lane-longer-requires-clause-clones
clones_of_lane-longer-requires-clause-clones g c = lane_clones c.args.places c.loop-lane.lanes c.in-Some.lane c.loop-lane.invariant.0 c.in-Some.ensures.lane.0 (g.S.Data.stored c.args.storage.now) g.S.Elem.Clone.is_clone c.requires.clones
