use Rattle.nd_elements.proofs.NamesFromOtherCrates.{sym, subst}
use Rattle.nd_elements.specs.ElementsAtNumberedPlaces.{Holds, PlacesDiffer}
use Rattle.nd_elements.specs.elements.ElementChanges.{ChangesEach, MayChangeEach}
use Rattle.nd_elements.proofs.elements.map_inplace.change_places.Goals as goal

pub change_lane-requires-clause-apart : goal.change_lane-requires-clause-apart
change_lane-requires-clause-apart g c = subst (λ at. PlacesDiffer at) (sym c.in-Some.ensures) c.requires.apart

pub change_lane-requires-clause-holds : goal.change_lane-requires-clause-holds
change_lane-requires-clause-holds g c = subst (λ at. Holds g.S.Data.stored at c.args.storage.now) (sym c.in-Some.ensures) c.requires.holds

pub change_lane-requires-clause-callable : goal.change_lane-requires-clause-callable
change_lane-requires-clause-callable g c = subst (λ at. MayChangeEach g.F.FnMut g.S.Data.stored at c.args.storage.now c.args.f) (sym c.in-Some.ensures) c.requires.callable

pub returns-in-Some-clause-changed : goal.returns-in-Some-clause-changed
returns-in-Some-clause-changed g c = subst (λ at. ChangesEach g.F.FnMut g.S.Data.stored at c.args.storage.now c.change_lane.new.storage c.args.f c.change_lane.result) c.in-Some.ensures c.change_lane.ensures.changed
