use Rattle.nd_elements.proofs.NamesFromOtherCrates.{sym, subst, along, ranked}
use Rattle.nd_elements.specs.ElementsAtNumberedPlaces.{Holds, PlacesDiffer}
use Rattle.nd_elements.specs.elements.PairsWithOneWritten.{MayZipAt, ZipsAt}
use Rattle.nd_elements.proofs.elements.zip_mut_with.zip_places.Goals as goal

pub zip_lane-requires-clause-apart : goal.zip_lane-requires-clause-apart
zip_lane-requires-clause-apart g c = subst (λ at. PlacesDiffer at) (sym c.in-Some.ensures.0) c.requires.apart

pub zip_lane-requires-clause-holds : goal.zip_lane-requires-clause-holds
zip_lane-requires-clause-holds g c = subst (λ at. Holds g.S.Data.stored at c.args.storage.now) (sym c.in-Some.ensures.0) c.requires.holds

pub zip_lane-requires-clause-others_hold : goal.zip_lane-requires-clause-others_hold
zip_lane-requires-clause-others_hold g c = subst (λ at. Holds g.Z.Data.stored at c.args.others.now) (sym c.in-Some.ensures.1) c.requires.others_hold

pub zip_lane-requires-clause-callable : goal.zip_lane-requires-clause-callable
zip_lane-requires-clause-callable g c =
    subst (λ at. MayZipAt g.F.FnMut g.S.Data.stored g.Z.Data.stored at (along c.in-Some.aside) c.args.storage.now c.args.others.now c.args.f) (sym c.in-Some.ensures.0)
    (subst (λ theirs. MayZipAt g.F.FnMut g.S.Data.stored g.Z.Data.stored (ranked c.args.places) theirs c.args.storage.now c.args.others.now c.args.f) (sym c.in-Some.ensures.1) c.requires.callable)

pub returns-in-Some-clause-changed : goal.returns-in-Some-clause-changed
returns-in-Some-clause-changed g c =
    subst (λ at. ZipsAt g.F.FnMut g.S.Data.stored g.Z.Data.stored at (ranked c.args.other_places) c.args.others.now c.args.storage.now c.zip_lane.new.storage c.args.f c.zip_lane.result) c.in-Some.ensures.0
    (subst (λ theirs. ZipsAt g.F.FnMut g.S.Data.stored g.Z.Data.stored (along c.in-Some.lane) theirs c.args.others.now c.args.storage.now c.zip_lane.new.storage c.args.f c.zip_lane.result) c.in-Some.ensures.1 c.zip_lane.ensures.changed)
