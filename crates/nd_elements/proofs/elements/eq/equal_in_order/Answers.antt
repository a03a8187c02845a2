use Rattle.nd_elements.proofs.NamesFromOtherCrates.{◌∙◌, pointwise, by_rank, placement_of}
use Rattle.nd_elements.specs.ElementsAtNumberedPlaces.{all_elements_at}
use Rattle.nd_elements.proofs.elements_lemmas.ElementsCollectedInOrder.{all_collected}
use Rattle.nd_elements.proofs.PlacesAsCallsGetThem.{handed_alike, handed_holds}
use Rattle.nd_elements.proofs.elements.eq.equal_in_order.Goals as goal

pub equal_places-requires-clause-alike : goal.equal_places-requires-clause-alike
equal_places-requires-clause-alike g c = handed_alike c.places.ensures c.places-2.ensures c.requires.alike

pub equal_places-requires-clause-ours : goal.equal_places-requires-clause-ours
equal_places-requires-clause-ours g c = handed_holds c.places.ensures g.S.Data.stored c.args.a.now c.requires.ours

pub equal_places-requires-clause-theirs : goal.equal_places-requires-clause-theirs
equal_places-requires-clause-theirs g c = handed_holds c.places-2.ensures g.S.Data.stored c.args.b.now c.requires.theirs

pub returns : goal.returns
returns g c =
    let one = placement_of c.args.ours.now in
    let two = placement_of c.args.theirs.now in
    let stored = g.S.Data.stored in
    c.equal_places.ensures
    ∙ (λ i. pointwise g.S.Elem.PartialEq.eq (all_elements_at stored (by_rank (c.places.ensures i)) c.args.a.now) (all_elements_at stored (by_rank (c.places-2.ensures i)) c.args.b.now))
    ∙ (λ i. pointwise g.S.Elem.PartialEq.eq (all_collected (stored c.args.a.now) one.offset one.lengths one.strides i) (all_collected (stored c.args.b.now) two.offset two.lengths two.strides i))
