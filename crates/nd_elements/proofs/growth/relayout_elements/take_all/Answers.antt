use Rattle.nd_elements.proofs.NamesFromOtherCrates.{◌∙◌, pos, ◌+ℤ◌, ◌*ℤ◌, sym, subst, arith, ◌+◌, ap, ◌≤◌, vec_len, vec_capacity, size_of, place_at_rank, IsLane}
use Rattle.nd_elements.specs.growth.ElementsMovedOut.{seated, IsTakenTo}
use Rattle.nd_elements.proofs.along_lemmas.LanePart.{lane_apart, still_holds, room_after}
use Rattle.nd_elements.proofs.growth_lemmas.ElementsTakenFromSeats.{seats_stay, taken_then}
use Rattle.nd_elements.proofs.growth.relayout_elements.take_all.Goals as goal

pub take_lane-requires : goal.take_lane-requires
take_lane-requires g c =
    let so_far = c.loop-lane.invariant in record {
      apart = let so_far = c.loop-lane.invariant in lane_apart c.args.places c.loop-lane.lanes c.in-Some.lane (so_far.0, so_far.1, so_far.2) c.in-Some.ensures.lane.0 c.requires.apart;
      holds = still_holds c.args.places c.loop-lane.lanes c.in-Some.lane (so_far.0, so_far.1, so_far.2) c.in-Some.ensures.lane.0 (seated c.args.seats.now) (seated c.loop-lane.seats) c.requires.apart so_far.3.left c.requires.holds;
      room = room_after c.args.places c.loop-lane.lanes c.in-Some.lane (so_far.0, so_far.1, so_far.2) c.in-Some.ensures.lane.0 (vec_len c.args.items.now) (vec_len c.loop-lane.items) (vec_capacity c.loop-lane.items) so_far.4
          (subst (λ m. vec_len c.args.items.now + size_of c.args.places.lengths.now ≤ m) (sym so_far.5) c.requires.room);
    }

pub loop-lane-preserved : goal.loop-lane-preserved
loop-lane-preserved g c =
    let so_far = c.loop-lane.invariant in
    let lane = c.in-Some.lane in
    let given = c.in-Some.ensures.lane in
    let along : IsLane c.args.places.first c.args.places.lengths.now c.args.places.strides.now c.loop-lane.lanes.rank lane.place lane.count lane.stride = rw (so_far.0, so_far.1, so_far.2) at given.0 in
    let place = place_at_rank c.args.places.first c.args.places.lengths.now c.args.places.strides.now in
    let old = seated c.args.seats.now in
    let new = seated c.take_lane.new.seats in (
      c.in-Some.ensures.over.0 ∙ so_far.0,
      c.in-Some.ensures.over.1 ∙ so_far.1,
      c.in-Some.ensures.over.2 ∙ so_far.2,
      subst (λ r. IsTakenTo place r old new c.args.items.now.items c.take_lane.new.items.items) (sym given.1)
          (taken_then place (λ k. pos lane.place +ℤ (pos k *ℤ lane.stride)) c.loop-lane.lanes.rank lane.count (size_of c.args.places.lengths.now) along.within c.requires.apart along.places
          old (seated c.loop-lane.seats) c.args.items.now.items c.loop-lane.items.items so_far.3 new c.take_lane.new.items.items c.take_lane.ensures.taken),
      (let e = so_far.4 in let l = c.take_lane.ensures.len in let n = given.1 in omega (arith, e, l, n)),
      c.take_lane.ensures.room ∙ so_far.5,
      seats_stay c.args.seats.now c.loop-lane.seats c.take_lane.new.seats so_far.6 c.take_lane.ensures.places,
    )

pub returns : goal.returns
returns g c =
    let so_far = c.loop-lane.invariant in record {
      taken = subst (λ r. IsTakenTo (place_at_rank c.args.places.first c.args.places.lengths.now c.args.places.strides.now) r (seated c.args.seats.now) (seated c.loop-lane.seats) c.args.items.now.items c.loop-lane.items.items) (c.in_default.ensures.lane.0 ∙ ap size_of so_far.1) so_far.3;
      places = c.loop-lane.invariant.6;
      len = so_far.4 ∙ ap (λ r. vec_len c.args.items.now + r) (c.in_default.ensures.lane.0 ∙ ap size_of so_far.1);
      room = c.loop-lane.invariant.5;
    }
