use Rattle.nd_elements.proofs.PlacesAsCallsGetThem.{handed_alike, handed_apart, handed_holds}
use Rattle.nd_elements.proofs.elements_lemmas.ZippedLayouts.{layouts_zippable, layouts_zipped}
use Rattle.nd_elements.proofs.elements.zip_mut_with.zip_in_order.Goals as goal

pub zip_places-requires-clause-alike : goal.zip_places-requires-clause-alike
zip_places-requires-clause-alike g c = handed_alike c.places.ensures c.places-2.ensures c.requires.alike

pub zip_places-requires-clause-apart : goal.zip_places-requires-clause-apart
zip_places-requires-clause-apart g c = handed_apart c.places.ensures c.args.layout.now.as_many c.requires.apart

pub zip_places-requires-clause-holds : goal.zip_places-requires-clause-holds
zip_places-requires-clause-holds g c = handed_holds c.places.ensures g.S.Data.stored c.args.storage.now c.requires.holds

pub zip_places-requires-clause-others_hold : goal.zip_places-requires-clause-others_hold
zip_places-requires-clause-others_hold g c = handed_holds c.places-2.ensures g.Z.Data.stored c.args.others.now c.requires.others_hold

pub zip_places-requires-clause-callable : goal.zip_places-requires-clause-callable
zip_places-requires-clause-callable g c = layouts_zippable g.F.FnMut g.S.Data.stored g.Z.Data.stored c.args.others.now c.args.storage.now c.args.f c.places.ensures c.places-2.ensures c.requires.alike c.requires.callable

pub returns-clause-visits : goal.returns-clause-visits
returns-clause-visits g c = (layouts_zipped g.F.FnMut g.S.Data.stored g.Z.Data.stored c.args.others.now c.args.storage.now c.args.f c.places.ensures c.places-2.ensures c.requires.alike c.zip_places.new.storage c.zip_places.result c.zip_places.ensures.changed).0

pub returns-clause-holds : goal.returns-clause-holds
returns-clause-holds g c = (layouts_zipped g.F.FnMut g.S.Data.stored g.Z.Data.stored c.args.others.now c.args.storage.now c.args.f c.places.ensures c.places-2.ensures c.requires.alike c.zip_places.new.storage c.zip_places.result c.zip_places.ensures.changed).1

pub returns-clause-others : goal.returns-clause-others
returns-clause-others g c = (layouts_zipped g.F.FnMut g.S.Data.stored g.Z.Data.stored c.args.others.now c.args.storage.now c.args.f c.places.ensures c.places-2.ensures c.requires.alike c.zip_places.new.storage c.zip_places.result c.zip_places.ensures.changed).2
