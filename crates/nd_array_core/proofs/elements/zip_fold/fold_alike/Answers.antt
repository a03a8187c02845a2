use Rattle.nd_elements.proofs.PlacesAsCallsGetThem.{handed_alike, handed_holds}
use Rattle.nd_elements.proofs.elements_lemmas.PairedLayouts.{layouts_foldable, layouts_folded}
use Rattle.nd_array_core.specs.ArrayMeaning.{meaning_of}
use Rattle.nd_array_core.proofs.elements.zip_fold.fold_alike.Goals as goal

pub fold_pairs-f-requires-clause-alike : goal.fold_pairs-f-requires-clause-alike
unfolding meaning_of
fold_pairs-f-requires-clause-alike g c = handed_alike c.places-ours.ensures c.places-theirs.ensures c.requires.alike

pub fold_pairs-f-requires-clause-holds : goal.fold_pairs-f-requires-clause-holds
fold_pairs-f-requires-clause-holds g c = handed_holds c.places-ours.ensures g.S.Data.stored c.args.array.now.storage c.args.array.now.inside

pub fold_pairs-f-requires-clause-others_hold : goal.fold_pairs-f-requires-clause-others_hold
fold_pairs-f-requires-clause-others_hold g c = handed_holds c.places-theirs.ensures g.Z.Data.stored c.args.other.now.storage c.args.other.now.inside

pub fold_pairs-f-requires-clause-callable : goal.fold_pairs-f-requires-clause-callable
unfolding meaning_of
fold_pairs-f-requires-clause-callable g c = layouts_foldable g.S.Data.stored g.Z.Data.stored c.args.array.now.storage c.args.other.now.storage c.places-ours.ensures c.places-theirs.ensures c.requires.alike g.F.FnMut (c.args.f, c.args.init) c.requires.callable

pub returns : goal.returns
unfolding meaning_of
returns g c =
    let array = c.args.array.now in
    let other = c.args.other.now in
    record { visits = (c.fold_pairs-f.result.0, layouts_folded g.S.Data.stored g.Z.Data.stored array.storage other.storage c.places-ours.ensures c.places-theirs.ensures c.requires.alike g.F.FnMut (c.args.f, c.args.init) c.fold_pairs-f.result c.fold_pairs-f.ensures.ran) }
