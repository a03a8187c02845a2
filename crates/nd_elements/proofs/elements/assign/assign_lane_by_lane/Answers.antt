use Rattle.nd_elements.proofs.NamesFromOtherCrates.{◌∙◌, ap, sym, subst, along, ranked, all_through}
use Rattle.nd_elements.specs.ElementsAtNumberedPlaces.{elements_at}
use Rattle.nd_elements.specs.StoragePlaces.{stored_at}
use Rattle.nd_elements.specs.elements.AssignedElements.{IsAssignedTo}
use Rattle.nd_elements.proofs.elements_lemmas.AssignedElements.{assigned_then, partly_then}
use Rattle.nd_elements.proofs.along_lemmas.LanePart.{lane_refused, lane_apart, lane_clones, lane_holds, still_holds}
use Rattle.nd_elements.proofs.elements_lemmas.LanesOfBoth.{as_long, both_lie, go_on_both}
use Rattle.nd_elements.proofs.elements.assign.assign_lane_by_lane.Goals as goal

pub assign_lane-requires-clause-as_long : goal.assign_lane-requires-clause-as_long
assign_lane-requires-clause-as_long g c = as_long c.args.places c.args.other_places c.loop-lane.ours c.loop-lane.theirs c.loop-lane.invariant.0 c.in-Some.lane c.in-Some-next.aside c.requires.alike c.in-Some.ensures.along c.in-Some-next.ensures.along

pub assign_lane-requires-clause-apart : goal.assign_lane-requires-clause-apart
assign_lane-requires-clause-apart g c = lane_apart c.args.places c.loop-lane.ours c.in-Some.lane c.loop-lane.invariant.0.0 c.in-Some.ensures.lane.0 c.requires.apart

pub assign_lane-requires-clause-holds : goal.assign_lane-requires-clause-holds
assign_lane-requires-clause-holds g c = still_holds c.args.places c.loop-lane.ours c.in-Some.lane c.loop-lane.invariant.0.0 c.in-Some.ensures.lane.0 (g.S.Data.stored c.args.storage.now) (g.S.Data.stored c.loop-lane.storage) c.requires.apart c.loop-lane.invariant.1.left c.requires.holds

pub assign_lane-requires-clause-others_hold : goal.assign_lane-requires-clause-others_hold
assign_lane-requires-clause-others_hold g c = lane_holds c.args.other_places c.loop-lane.theirs c.in-Some-next.aside c.loop-lane.invariant.0.1 c.in-Some-next.ensures.lane.0 (g.Z.Data.stored c.args.others.now) c.requires.others_hold

pub assign_lane-requires-clause-clones : goal.assign_lane-requires-clause-clones
assign_lane-requires-clause-clones g c = lane_clones c.args.other_places c.loop-lane.theirs c.in-Some-next.aside c.loop-lane.invariant.0.1 c.in-Some-next.ensures.lane.0 (g.Z.Data.stored c.args.others.now) g.A.Clone.is_clone c.requires.clones

pub loop-lane-preserved : goal.loop-lane-preserved
loop-lane-preserved g c =
    let so_far = c.loop-lane.invariant in
    let at = ranked c.args.places in
    let given = elements_at g.Z.Data.stored (ranked c.args.other_places) c.args.others.now in
    let old = g.S.Data.stored c.args.storage.now in
    let new = g.S.Data.stored c.assign_lane.new.storage in
    let lies = both_lie c.args.places c.args.other_places c.loop-lane.ours c.loop-lane.theirs so_far.0 c.in-Some.lane c.in-Some-next.aside c.requires.alike c.in-Some.ensures.along c.in-Some-next.ensures.along c.in-Some.ensures.lane.0 c.in-Some-next.ensures.lane.0 in (
      go_on_both c.args.places c.args.other_places c.loop-lane.ours c.loop-lane.theirs so_far.0 c.in-Some.lane c.in-Some-next.aside c.next.new.self c.next-in-Some.new.self c.in-Some.ensures.over c.in-Some-next.ensures.over c.in-Some.ensures.lane.1 c.in-Some-next.ensures.lane.1 lies.0,
      subst (λ r. IsAssignedTo given at.place r old new) (sym c.in-Some.ensures.lane.1)
          (assigned_then given at.place c.loop-lane.ours.rank at.count c.requires.apart old (g.S.Data.stored c.loop-lane.storage) so_far.1 (along c.in-Some.lane).place (elements_at g.Z.Data.stored (along c.in-Some-next.aside) c.args.others.now) c.in-Some.lane.count
          lies.1.within lies.1.places (λ k below. ap (stored_at (g.Z.Data.stored c.args.others.now)) (lies.2.places k below)) new c.in-Ok.ensures.outcome.0),
      c.assign_lane.ensures.frame ∙ so_far.2,
    )

pub returns-in-Err-clause-outcome : goal.returns-in-Err-clause-outcome
returns-in-Err-clause-outcome g c =
    let so_far = c.loop-lane.invariant in
    let at = ranked c.args.places in
    let lies = both_lie c.args.places c.args.other_places c.loop-lane.ours c.loop-lane.theirs so_far.0 c.in-Some.lane c.in-Some-next.aside c.requires.alike c.in-Some.ensures.along c.in-Some-next.ensures.along c.in-Some.ensures.lane.0 c.in-Some-next.ensures.lane.0 in (
      tt,
      partly_then (elements_at g.Z.Data.stored (ranked c.args.other_places) c.args.others.now) at.place c.loop-lane.ours.rank at.count c.requires.apart (g.S.Data.stored c.args.storage.now) (g.S.Data.stored c.loop-lane.storage) so_far.1 (along c.in-Some.lane).place (elements_at g.Z.Data.stored (along c.in-Some-next.aside) c.args.others.now) c.in-Some.lane.count
          lies.1.within lies.1.places (λ k below. ap (stored_at (g.Z.Data.stored c.args.others.now)) (lies.2.places k below)) (g.S.Data.stored c.assign_lane.new.storage) c.in-Err.ensures.outcome.1,
    )

pub returns-in-Err-clause-refused : goal.returns-in-Err-clause-refused
returns-in-Err-clause-refused g c =
    lane_refused c.args.other_places c.loop-lane.theirs c.in-Some-next.aside c.loop-lane.invariant.0.1 c.in-Some-next.ensures.lane.0 (g.Z.Data.stored c.args.others.now) g.A.Clone.is_infallible c.in-Err.ensures.refused

pub returns-in-Err-clause-frame : goal.returns-in-Err-clause-frame
returns-in-Err-clause-frame g c = c.assign_lane.ensures.frame ∙ c.loop-lane.invariant.2

pub returns-clause-outcome : goal.returns-clause-outcome
returns-clause-outcome g c =
    let given = elements_at g.Z.Data.stored (ranked c.args.other_places) c.args.others.now in
    (subst (λ r. IsAssignedTo given (ranked c.args.places).place r (g.S.Data.stored c.args.storage.now) (g.S.Data.stored c.loop-lane.storage)) (all_through c.args.places c.loop-lane.ours c.loop-lane.invariant.0.0 c.in_default.ensures.lane.0) c.loop-lane.invariant.1, tt)

pub returns-clause-frame : goal.returns-clause-frame
returns-clause-frame g c = c.loop-lane.invariant.2
