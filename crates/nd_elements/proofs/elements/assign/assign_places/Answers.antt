use Rattle.std.specs.Prelude.{OnErr}
use Rattle.nd_elements.proofs.NamesFromOtherCrates.{sym, subst, along, ranked}
use Rattle.nd_elements.specs.ElementsAtNumberedPlaces.{Holds, PlacesDiffer, ClonesAreEqualAt, MayLackAt}
use Rattle.nd_elements.specs.elements.AssignedElements.{AssignsAt}
use Rattle.nd_elements.proofs.elements.assign.assign_places.Goals as goal

pub assign_lane-requires-clause-apart : goal.assign_lane-requires-clause-apart
assign_lane-requires-clause-apart g c = subst (λ at. PlacesDiffer at) (sym c.in-Some.ensures.0) c.requires.apart

pub assign_lane-requires-clause-holds : goal.assign_lane-requires-clause-holds
assign_lane-requires-clause-holds g c = subst (λ at. Holds g.S.Data.stored at c.args.storage.now) (sym c.in-Some.ensures.0) c.requires.holds

pub assign_lane-requires-clause-others_hold : goal.assign_lane-requires-clause-others_hold
assign_lane-requires-clause-others_hold g c = subst (λ at. Holds g.Z.Data.stored at c.args.others.now) (sym c.in-Some.ensures.1) c.requires.others_hold

pub assign_lane-requires-clause-clones : goal.assign_lane-requires-clause-clones
assign_lane-requires-clause-clones g c = subst (λ at. ClonesAreEqualAt g.A.Clone.is_clone g.Z.Data.stored at c.args.others.now) (sym c.in-Some.ensures.1) c.requires.clones

pub returns-in-Some-clause-outcome : goal.returns-in-Some-clause-outcome
returns-in-Some-clause-outcome g c =
    subst (λ at. AssignsAt g.S.Data.stored g.Z.Data.stored at (ranked c.args.other_places) c.args.others.now c.args.storage.now c.assign_lane.new.storage c.assign_lane.result) c.in-Some.ensures.0
    (subst (λ theirs. AssignsAt g.S.Data.stored g.Z.Data.stored (along c.in-Some.lane) theirs c.args.others.now c.args.storage.now c.assign_lane.new.storage c.assign_lane.result) c.in-Some.ensures.1 c.assign_lane.ensures.outcome)

pub returns-in-Some-clause-refused : goal.returns-in-Some-clause-refused
returns-in-Some-clause-refused g c = subst (λ theirs. OnErr c.assign_lane.result (MayLackAt g.A.Clone.is_infallible g.Z.Data.stored theirs c.args.others.now)) c.in-Some.ensures.1 c.assign_lane.ensures.refused
