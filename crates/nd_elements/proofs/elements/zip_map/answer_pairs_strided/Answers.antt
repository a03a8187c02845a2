use Rattle.nd_elements.proofs.NamesFromOtherCrates.{◌≡◌, ◌∙◌, ◌<◌, ℕ, ap, fun_ext, subst, along}
use Rattle.std.specs.Prelude.{IfSome}
use Rattle.nd_elements.specs.StoragePlaces.{stored_at}
use Rattle.nd_elements.specs.BorrowedAndOwnedStorages.{shown_by}
use Rattle.nd_elements.specs.elements.PairMaps.{AnswersPair, MayBeShownPair, pairs_at}
use Rattle.nd_elements.proofs.elements_lemmas.MappedElements.{after_alike, takes_alike}
use Rattle.nd_elements.proofs.elements_lemmas.PairMaps.{pair_alike}
use Rattle.nd_elements.proofs.elements.zip_map.answer_pairs_strided.Goals as goal

pub answer_pairs_by_places-requires-clause-callable : goal.answer_pairs_by_places-requires-clause-callable
answer_pairs_by_places-requires-clause-callable g c =
    let lane = c.args.lane in
    let other = c.args.other_lane in
    let xs = c.in-Some-Some.xs in
    let ys = c.in-Some-Some.ys in
    let ours : (p : ℕ) → shown_by xs p ≡ g.S.Data.stored c.args.storage.now p = λ p. (subst (λ o. IfSome o (λ s. (place : ℕ) → shown_by s place ≡ shown_by c.borrowed.result place)) c.in-Some-Some.is-0 c.of_one_slice-slice.ensures) p ∙ c.borrowed.ensures p in
    let theirs : (p : ℕ) → shown_by ys p ≡ g.Z.Data.stored c.args.others.now p = λ p. (subst (λ o. IfSome o (λ s. (place : ℕ) → shown_by s place ≡ shown_by c.borrowed-2.result place)) c.in-Some-Some.is-1 c.of_one_slice-other_slice.ensures) p ∙ c.borrowed-2.ensures p in
    let found = pairs_at shown_by (along lane) xs shown_by (along other) ys in
    let all = pairs_at g.S.Data.stored (along lane) c.args.storage.now g.Z.Data.stored (along other) c.args.others.now in
    let same : (k : ℕ) → k < lane.count → found k ≡ all k = λ k below. pair_alike (ap (λ h. stored_at h ((along lane).place k)) (fun_ext ours)) (ap (λ h. stored_at h ((along other).place k)) (fun_ext theirs)) in
    takes_alike (AnswersPair g.F.FnMut) (MayBeShownPair g.F.FnMut) found all lane.count same c.args.f c.requires.callable

pub returns-in-Some-Some-clause-pushed : goal.returns-in-Some-Some-clause-pushed
returns-in-Some-Some-clause-pushed g c =
    let lane = c.args.lane in
    let other = c.args.other_lane in
    let xs = c.in-Some-Some.xs in
    let ys = c.in-Some-Some.ys in
    let ours : (p : ℕ) → shown_by xs p ≡ g.S.Data.stored c.args.storage.now p = λ p. (subst (λ o. IfSome o (λ s. (place : ℕ) → shown_by s place ≡ shown_by c.borrowed.result place)) c.in-Some-Some.is-0 c.of_one_slice-slice.ensures) p ∙ c.borrowed.ensures p in
    let theirs : (p : ℕ) → shown_by ys p ≡ g.Z.Data.stored c.args.others.now p = λ p. (subst (λ o. IfSome o (λ s. (place : ℕ) → shown_by s place ≡ shown_by c.borrowed-2.result place)) c.in-Some-Some.is-1 c.of_one_slice-other_slice.ensures) p ∙ c.borrowed-2.ensures p in
    let found = pairs_at shown_by (along lane) xs shown_by (along other) ys in
    let all = pairs_at g.S.Data.stored (along lane) c.args.storage.now g.Z.Data.stored (along other) c.args.others.now in
    let same : (k : ℕ) → k < lane.count → found k ≡ all k = λ k below. pair_alike (ap (λ h. stored_at h ((along lane).place k)) (fun_ext ours)) (ap (λ h. stored_at h ((along other).place k)) (fun_ext theirs)) in
    after_alike (AnswersPair g.F.FnMut) found all lane.count same c.args.items.now.items c.answer_pairs_by_places.new.items.items c.args.f c.answer_pairs_by_places.result c.answer_pairs_by_places.ensures.pushed
