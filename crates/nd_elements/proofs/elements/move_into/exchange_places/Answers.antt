use Rattle.nd_elements.proofs.NamesFromOtherCrates.{sym, subst, along, ranked}
use Rattle.nd_elements.specs.ElementsAtNumberedPlaces.{Holds, PlacesDiffer}
use Rattle.nd_elements.specs.elements.AssignedElements.{MovesAt}
use Rattle.nd_elements.proofs.elements.move_into.exchange_places.Goals as goal

pub exchange_lane-requires-clause-apart : goal.exchange_lane-requires-clause-apart
exchange_lane-requires-clause-apart g c = subst (λ at. PlacesDiffer at) (sym c.in-Some.ensures.0) c.requires.apart

pub exchange_lane-requires-clause-others_apart : goal.exchange_lane-requires-clause-others_apart
exchange_lane-requires-clause-others_apart g c = subst (λ at. PlacesDiffer at) (sym c.in-Some.ensures.1) c.requires.others_apart

pub exchange_lane-requires-clause-holds : goal.exchange_lane-requires-clause-holds
exchange_lane-requires-clause-holds g c = subst (λ at. Holds g.S.Data.stored at c.args.storage.now) (sym c.in-Some.ensures.0) c.requires.holds

pub exchange_lane-requires-clause-others_hold : goal.exchange_lane-requires-clause-others_hold
exchange_lane-requires-clause-others_hold g c = subst (λ at. Holds g.Z.Data.stored at c.args.others.now) (sym c.in-Some.ensures.1) c.requires.others_hold

pub returns-in-Some-clause-moved : goal.returns-in-Some-clause-moved
returns-in-Some-clause-moved g c =
    subst (λ at. MovesAt g.S.Data.stored g.Z.Data.stored at (ranked c.args.other_places) c.args.others.now c.args.storage.now c.exchange_lane.new.storage) c.in-Some.ensures.0
    (subst (λ theirs. MovesAt g.S.Data.stored g.Z.Data.stored (along c.in-Some.lane) theirs c.args.others.now c.args.storage.now c.exchange_lane.new.storage) c.in-Some.ensures.1 c.exchange_lane.ensures.moved)

pub returns-in-Some-clause-back : goal.returns-in-Some-clause-back
returns-in-Some-clause-back g c =
    subst (λ at. MovesAt g.Z.Data.stored g.S.Data.stored (ranked c.args.other_places) at c.args.storage.now c.args.others.now c.exchange_lane.new.others) c.in-Some.ensures.0
    (subst (λ theirs. MovesAt g.Z.Data.stored g.S.Data.stored theirs (along c.in-Some.lane) c.args.storage.now c.args.others.now c.exchange_lane.new.others) c.in-Some.ensures.1 c.exchange_lane.ensures.back)
