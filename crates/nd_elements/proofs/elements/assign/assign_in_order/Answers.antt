use Rattle.nd_elements.proofs.NamesFromOtherCrates.{refl, subst, OnErr, on_err_weaker, by_rank, placement_of}
use Rattle.nd_elements.specs.ElementsAtNumberedPlaces.{MayLackAt}
use Rattle.nd_elements.proofs.elements_lemmas.AssignedElements.{assigned_between, stopped_between, still_between}
use Rattle.nd_elements.proofs.PlacesAsCallsGetThem.{handed_alike, handed_apart, handed_holds, handed_clones, second_refused}
use Rattle.nd_elements.proofs.elements.assign.assign_in_order.Goals as goal

pub assign_places-requires-clause-alike : goal.assign_places-requires-clause-alike
assign_places-requires-clause-alike g c = handed_alike c.places.ensures c.places-2.ensures c.requires.alike

pub assign_places-requires-clause-apart : goal.assign_places-requires-clause-apart
assign_places-requires-clause-apart g c = handed_apart c.places.ensures c.args.layout.now.as_many c.requires.apart

pub assign_places-requires-clause-holds : goal.assign_places-requires-clause-holds
assign_places-requires-clause-holds g c = handed_holds c.places.ensures g.S.Data.stored c.args.storage.now c.requires.holds

pub assign_places-requires-clause-others_hold : goal.assign_places-requires-clause-others_hold
assign_places-requires-clause-others_hold g c = handed_holds c.places-2.ensures g.Z.Data.stored c.args.others.now c.requires.others_hold

pub assign_places-requires-clause-clones : goal.assign_places-requires-clause-clones
assign_places-requires-clause-clones g c = handed_clones c.places-2.ensures g.Z.Data.stored c.args.others.now g.A.Clone.is_clone c.requires.clones

pub returns-clause-assigned : goal.returns-clause-assigned
returns-clause-assigned g c = assigned_between g.S.Data.stored g.Z.Data.stored c.args.others.now c.args.storage.now c.assign_places.new.storage c.places.ensures c.places-2.ensures c.requires.alike c.assign_places.result c.assign_places.ensures.outcome

pub returns-clause-stopped : goal.returns-clause-stopped
returns-clause-stopped g c = stopped_between g.S.Data.stored g.Z.Data.stored c.args.others.now c.args.storage.now c.assign_places.new.storage c.places.ensures c.places-2.ensures c.requires.alike c.assign_places.result c.assign_places.ensures.outcome

pub returns-clause-refused : goal.returns-clause-refused
returns-clause-refused g c =
    let two = placement_of c.args.paired.now in
    on_err_weaker c.assign_places.result (second_refused (g.Z.Data.stored c.args.others.now) two two refl g.A.Clone.is_infallible)
    (subst (λ p. OnErr c.assign_places.result (MayLackAt g.A.Clone.is_infallible g.Z.Data.stored (by_rank p) c.args.others.now)) c.places-2.ensures c.assign_places.ensures.refused)

pub returns-clause-holds : goal.returns-clause-holds
returns-clause-holds g c = (still_between g.S.Data.stored g.Z.Data.stored c.args.others.now c.args.storage.now c.assign_places.new.storage c.places.ensures c.places-2.ensures c.requires.alike c.assign_places.result c.assign_places.ensures.outcome c.args.layout.now.as_many c.requires.apart c.requires.holds c.requires.others_hold).0

pub returns-clause-others : goal.returns-clause-others
returns-clause-others g c = (still_between g.S.Data.stored g.Z.Data.stored c.args.others.now c.args.storage.now c.assign_places.new.storage c.places.ensures c.places-2.ensures c.requires.alike c.assign_places.result c.assign_places.ensures.outcome c.args.layout.now.as_many c.requires.apart c.requires.holds c.requires.others_hold).1
