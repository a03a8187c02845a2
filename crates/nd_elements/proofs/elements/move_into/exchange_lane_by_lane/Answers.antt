use Rattle.nd_elements.proofs.NamesFromOtherCrates.{◌∙◌, ap, sym, subst, ◌<◌, size_of, along, ranked, all_through}
use Rattle.nd_elements.specs.ElementsAtNumberedPlaces.{elements_at}
use Rattle.nd_elements.specs.elements.AssignedElements.{IsAssignedTo}
use Rattle.nd_elements.specs.elements.ElementChanges.{AreDistinct}
use Rattle.nd_elements.proofs.elements_lemmas.AssignedElements.{lane_exchanged}
use Rattle.nd_elements.proofs.along_lemmas.LanePart.{lane_apart, still_holds}
use Rattle.nd_elements.proofs.elements_lemmas.LanesOfBoth.{as_long, both_lie, go_on_both}
use Rattle.nd_elements.proofs.elements.move_into.exchange_lane_by_lane.Goals as goal

pub exchange_lane-requires-clause-as_long : goal.exchange_lane-requires-clause-as_long
exchange_lane-requires-clause-as_long g c = as_long c.args.places c.args.other_places c.loop-lane.ours c.loop-lane.theirs c.loop-lane.invariant.0 c.in-Some.lane c.in-Some-next.aside c.requires.alike c.in-Some.ensures.along c.in-Some-next.ensures.along

pub exchange_lane-requires-clause-apart : goal.exchange_lane-requires-clause-apart
exchange_lane-requires-clause-apart g c = lane_apart c.args.places c.loop-lane.ours c.in-Some.lane c.loop-lane.invariant.0.0 c.in-Some.ensures.lane.0 c.requires.apart

pub exchange_lane-requires-clause-others_apart : goal.exchange_lane-requires-clause-others_apart
exchange_lane-requires-clause-others_apart g c = lane_apart c.args.other_places c.loop-lane.theirs c.in-Some-next.aside c.loop-lane.invariant.0.1 c.in-Some-next.ensures.lane.0 c.requires.others_apart

pub exchange_lane-requires-clause-holds : goal.exchange_lane-requires-clause-holds
exchange_lane-requires-clause-holds g c = still_holds c.args.places c.loop-lane.ours c.in-Some.lane c.loop-lane.invariant.0.0 c.in-Some.ensures.lane.0 (g.S.Data.stored c.args.storage.now) (g.S.Data.stored c.loop-lane.storage) c.requires.apart c.loop-lane.invariant.1.left c.requires.holds

pub exchange_lane-requires-clause-others_hold : goal.exchange_lane-requires-clause-others_hold
exchange_lane-requires-clause-others_hold g c =
    still_holds c.args.other_places c.loop-lane.theirs c.in-Some-next.aside c.loop-lane.invariant.0.1 c.in-Some-next.ensures.lane.0 (g.Z.Data.stored c.args.others.now) (g.Z.Data.stored c.loop-lane.others) c.requires.others_apart
    (λ p nowhere. c.loop-lane.invariant.2.left p (λ i under. nowhere i (subst (λ r. i < r) (sym c.loop-lane.invariant.0.2) under))) c.requires.others_hold

pub loop-lane-preserved : goal.loop-lane-preserved
loop-lane-preserved g c =
    let so_far = c.loop-lane.invariant in
    let lane = along c.in-Some.lane in
    let other = along c.in-Some-next.aside in
    let our = ranked c.args.places in
    let their = ranked c.args.other_places in
    let ours = g.S.Data.stored c.args.storage.now in
    let theirs = g.Z.Data.stored c.args.others.now in
    let now = g.S.Data.stored c.loop-lane.storage in
    let others_now = g.Z.Data.stored c.loop-lane.others in
    let new = g.S.Data.stored c.exchange_lane.new.storage in
    let others_new = g.Z.Data.stored c.exchange_lane.new.others in
    let lies = both_lie c.args.places c.args.other_places c.loop-lane.ours c.loop-lane.theirs so_far.0 c.in-Some.lane c.in-Some-next.aside c.requires.alike c.in-Some.ensures.along c.in-Some-next.ensures.along c.in-Some.ensures.lane.0 c.in-Some-next.ensures.lane.0 in
    let others_apart : AreDistinct their.place our.count = subst (λ ns. AreDistinct their.place (size_of ns)) c.requires.alike c.requires.others_apart in
    let back = subst (λ n. IsAssignedTo (elements_at g.S.Data.stored lane c.loop-lane.storage) other.place n others_now others_new) lies.0 c.exchange_lane.ensures.back in (
      go_on_both c.args.places c.args.other_places c.loop-lane.ours c.loop-lane.theirs so_far.0 c.in-Some.lane c.in-Some-next.aside c.next.new.self c.next-in-Some.new.self c.in-Some.ensures.over c.in-Some-next.ensures.over c.in-Some.ensures.lane.1 c.in-Some-next.ensures.lane.1 lies.0,
      subst (λ r. IsAssignedTo (elements_at g.Z.Data.stored their c.args.others.now) our.place r ours new) (sym c.in-Some.ensures.lane.1)
          (lane_exchanged c.loop-lane.ours.rank lane.count our.count lies.1.within our.place their.place lane.place other.place lies.1.places lies.2.places c.requires.apart others_apart ours theirs now others_now so_far.1 so_far.2 new c.exchange_lane.ensures.moved),
      subst (λ r. IsAssignedTo (elements_at g.S.Data.stored our c.args.storage.now) their.place r theirs others_new) (sym c.in-Some.ensures.lane.1)
          (lane_exchanged c.loop-lane.ours.rank lane.count our.count lies.1.within their.place our.place other.place lane.place lies.2.places lies.1.places others_apart c.requires.apart theirs ours others_now now so_far.2 so_far.1 others_new back),
      c.exchange_lane.ensures.frame ∙ so_far.3,
    )

pub returns-clause-back : goal.returns-clause-back
returns-clause-back g c =
    let whole = all_through c.args.places c.loop-lane.ours c.loop-lane.invariant.0.0 c.in_default.ensures.lane.0 ∙ ap size_of (sym c.requires.alike) in
    subst (λ r. IsAssignedTo (elements_at g.S.Data.stored (ranked c.args.places) c.args.storage.now) (ranked c.args.other_places).place r (g.Z.Data.stored c.args.others.now) (g.Z.Data.stored c.loop-lane.others)) whole c.loop-lane.invariant.2

pub returns-clause-moved : goal.returns-clause-moved
returns-clause-moved g c =
    subst (λ r. IsAssignedTo (elements_at g.Z.Data.stored (ranked c.args.other_places) c.args.others.now) (ranked c.args.places).place r (g.S.Data.stored c.args.storage.now) (g.S.Data.stored c.loop-lane.storage)) (all_through c.args.places c.loop-lane.ours c.loop-lane.invariant.0.0 c.in_default.ensures.lane.0) c.loop-lane.invariant.1

pub returns-clause-frame : goal.returns-clause-frame
returns-clause-frame g c = c.loop-lane.invariant.3
