use Rattle.nd_array_core.proofs.NamesFromOtherCrates.{◌≡◌, ◌∙◌, ◌≤◌, ℕ, List, sym, subst, vec_capacity, RowMajor, by_rank, found_by_rank}
use Rattle.nd_elements.proofs.PlacesAsCallsGetThem.{handed_alike, handed_holds}
use Rattle.nd_elements.proofs.elements_lemmas.PairedLayouts.{layouts_answered, layouts_askable}
use Rattle.nd_array_core.specs.ArrayMeaning.{meaning_of, element_at}
use Rattle.nd_array_core.proofs.along_lemmas.HandedLanes.{found_there}
use Rattle.nd_array_core.proofs.elements.zip_map.zip_in_order.Goals as goal

pub answer_pairs-f-requires-clause-alike : goal.answer_pairs-f-requires-clause-alike
unfolding meaning_of
answer_pairs-f-requires-clause-alike g c = handed_alike c.places-ours.ensures c.places-theirs.ensures c.requires.alike

pub answer_pairs-f-requires-clause-holds : goal.answer_pairs-f-requires-clause-holds
answer_pairs-f-requires-clause-holds g c = handed_holds c.places-ours.ensures g.S.Data.stored c.args.array.now.storage c.args.array.now.inside

pub answer_pairs-f-requires-clause-others_hold : goal.answer_pairs-f-requires-clause-others_hold
answer_pairs-f-requires-clause-others_hold g c = handed_holds c.places-theirs.ensures g.Z.Data.stored c.args.other.now.storage c.args.other.now.inside

pub answer_pairs-f-requires-clause-room : goal.answer_pairs-f-requires-clause-room
unfolding meaning_of
answer_pairs-f-requires-clause-room g c = subst (λ p. (by_rank p).count ≤ vec_capacity c.args.room) (sym c.places-ours.ensures) c.requires.room

pub answer_pairs-f-requires-clause-callable : goal.answer_pairs-f-requires-clause-callable
unfolding meaning_of
answer_pairs-f-requires-clause-callable g c = layouts_askable g.S.Data.stored g.Z.Data.stored c.args.array.now.storage c.args.other.now.storage c.places-ours.ensures c.places-theirs.ensures c.requires.alike g.F.FnMut c.args.f c.requires.callable

pub returns-clause-visits : goal.returns-clause-visits
unfolding meaning_of
returns-clause-visits g c =
    let array = c.args.array.now in
    let other = c.args.other.now in
    let ns = g.D.Dimension.lengths array.layout.dim in
    let items = c.answer_pairs-f.result.1.items in
    let seen : (i : List ℕ) → element_at c.of_items.result i ≡ found_by_rank (ns, RowMajor) items i = λ i. c.of_items.ensures.owns.4 i ∙ (λ k. found_by_rank (c.raw_dim.ensures k, RowMajor) (c.of_items.ensures.stored k) i) in
    layouts_answered g.S.Data.stored g.Z.Data.stored array.storage other.storage c.places-ours.ensures c.places-theirs.ensures c.requires.alike g.F.FnMut c.args.f items c.answer_pairs-f.result.0 c.answer_pairs-f.ensures.answers (element_at c.of_items.result) (λ k below. seen _ ∙ found_there ns items k below)
