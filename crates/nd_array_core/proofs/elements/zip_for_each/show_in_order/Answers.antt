use Rattle.nd_elements.proofs.PlacesAsCallsGetThem.{handed_alike, handed_holds}
use Rattle.nd_elements.proofs.elements_lemmas.PairedLayouts.{layouts_askable, layouts_visited}
use Rattle.nd_array_core.specs.ArrayMeaning.{meaning_of}
use Rattle.nd_array_core.proofs.elements.zip_for_each.show_in_order.Goals as goal

pub show_pairs-requires-clause-alike : goal.show_pairs-requires-clause-alike
unfolding meaning_of
show_pairs-requires-clause-alike g c = handed_alike c.places-ours.ensures c.places-theirs.ensures c.requires.alike

pub show_pairs-requires-clause-holds : goal.show_pairs-requires-clause-holds
show_pairs-requires-clause-holds g c = handed_holds c.places-ours.ensures g.S.Data.stored c.args.array.now.storage c.args.array.now.inside

pub show_pairs-requires-clause-others_hold : goal.show_pairs-requires-clause-others_hold
show_pairs-requires-clause-others_hold g c = handed_holds c.places-theirs.ensures g.Z.Data.stored c.args.other.now.storage c.args.other.now.inside

pub show_pairs-requires-clause-callable : goal.show_pairs-requires-clause-callable
unfolding meaning_of
show_pairs-requires-clause-callable g c = layouts_askable g.S.Data.stored g.Z.Data.stored c.args.array.now.storage c.args.other.now.storage c.places-ours.ensures c.places-theirs.ensures c.requires.alike g.F.FnMut c.args.f c.requires.callable

pub returns : goal.returns
unfolding meaning_of
returns g c =
    let array = c.args.array.now in
    let other = c.args.other.now in
    record { visits = (c.show_pairs.result, layouts_visited g.S.Data.stored g.Z.Data.stored array.storage other.storage c.places-ours.ensures c.places-theirs.ensures c.requires.alike g.F.FnMut c.args.f c.show_pairs.result c.show_pairs.ensures.ran) }
