use Rattle.nd_elements.proofs.NamesFromOtherCrates.{placement_of, rearranged_itself}
use Rattle.nd_elements.proofs.elements_lemmas.AssignedElements.{assigned_shown, assigned_still, moved_between}
use Rattle.nd_elements.proofs.elements_lemmas.PairedElements.{others_stay}
use Rattle.nd_elements.proofs.PlacesAsCallsGetThem.{handed_alike, handed_apart, handed_holds}
use Rattle.nd_elements.proofs.elements.move_into.exchange_in_order.Goals as goal

pub exchange_places-requires-clause-alike : goal.exchange_places-requires-clause-alike
exchange_places-requires-clause-alike g c = handed_alike c.places.ensures c.places-2.ensures c.requires.alike

pub exchange_places-requires-clause-apart : goal.exchange_places-requires-clause-apart
exchange_places-requires-clause-apart g c = handed_apart c.places.ensures c.args.layout.now.as_many c.requires.apart

pub exchange_places-requires-clause-others_apart : goal.exchange_places-requires-clause-others_apart
exchange_places-requires-clause-others_apart g c = handed_apart c.places-2.ensures c.args.paired.now.as_many c.requires.others_apart

pub exchange_places-requires-clause-holds : goal.exchange_places-requires-clause-holds
exchange_places-requires-clause-holds g c = handed_holds c.places.ensures g.S.Data.stored c.args.storage.now c.requires.holds

pub exchange_places-requires-clause-others_hold : goal.exchange_places-requires-clause-others_hold
exchange_places-requires-clause-others_hold g c = handed_holds c.places-2.ensures g.Z.Data.stored c.args.others.now c.requires.others_hold

pub returns-clause-moved : goal.returns-clause-moved
returns-clause-moved g c =
    assigned_shown (g.Z.Data.stored c.args.others.now) (placement_of c.args.layout.now) (placement_of c.args.paired.now) c.requires.alike (g.S.Data.stored c.args.storage.now) (g.S.Data.stored c.exchange_places.new.storage)
    (moved_between g.S.Data.stored g.Z.Data.stored c.args.others.now c.args.storage.now c.exchange_places.new.storage c.places.ensures c.places-2.ensures c.exchange_places.ensures.moved)

pub returns-clause-holds : goal.returns-clause-holds
returns-clause-holds g c =
    (assigned_still (g.Z.Data.stored c.args.others.now) (placement_of c.args.layout.now) (placement_of c.args.paired.now) c.requires.alike (g.S.Data.stored c.args.storage.now) (g.S.Data.stored c.exchange_places.new.storage) c.args.layout.now.as_many c.requires.apart c.requires.holds c.requires.others_hold
    (moved_between g.S.Data.stored g.Z.Data.stored c.args.others.now c.args.storage.now c.exchange_places.new.storage c.places.ensures c.places-2.ensures c.exchange_places.ensures.moved)).0

pub returns-clause-others : goal.returns-clause-others
returns-clause-others g c =
    (assigned_still (g.Z.Data.stored c.args.others.now) (placement_of c.args.layout.now) (placement_of c.args.paired.now) c.requires.alike (g.S.Data.stored c.args.storage.now) (g.S.Data.stored c.exchange_places.new.storage) c.args.layout.now.as_many c.requires.apart c.requires.holds c.requires.others_hold
    (moved_between g.S.Data.stored g.Z.Data.stored c.args.others.now c.args.storage.now c.exchange_places.new.storage c.places.ensures c.places-2.ensures c.exchange_places.ensures.moved)).1

pub returns-clause-others_left : goal.returns-clause-others_left
returns-clause-others_left g c =
    let two = placement_of c.args.paired.now in
    let back = moved_between g.Z.Data.stored g.S.Data.stored c.args.storage.now c.args.others.now c.exchange_places.new.others c.places-2.ensures c.places.ensures c.exchange_places.ensures.back in
    others_stay two.offset two.lengths two.strides two.offset two.lengths two.strides (rearranged_itself two.offset two.lengths two.strides) (g.Z.Data.stored c.args.others.now) (g.Z.Data.stored c.exchange_places.new.others) back.left
