use Rattle.nd_elements.proofs.NamesFromOtherCrates.{◌≡◌, ◌∙◌, ◌+◌, ◌<◌, ℕ, ap, sym, subst, is_some, slice_get, along}
use Rattle.nd_elements.specs.ElementsAtNumberedPlaces.{in_turn}
use Rattle.nd_elements.specs.elements.ElementMaps.{AnswersAfter, TakesNumbered}
use Rattle.nd_elements.specs.elements.PairMaps.{AnswersPair, MayBeShownPair, pairs_at}
use Rattle.nd_elements.proofs.elements_lemmas.ElementsCollectedInOrder.{contiguous_has}
use Rattle.nd_elements.proofs.elements_lemmas.MappedElements.{contiguous_found, after_alike, takes_alike}
use Rattle.nd_elements.proofs.elements_lemmas.PairMaps.{pair_alike}
use Rattle.nd_elements.proofs.elements.zip_map.answer_pairs_contiguous.Goals as goal

pub run-xs-requires : goal.run-xs-requires
run-xs-requires g c k below =
    ap is_some (c.borrowed-region.ensures (c.args.lane.place + k))
    ∙ contiguous_has (g.S.Data.stored c.args.storage.now) c.args.lane.place c.args.lane.count c.args.lane.stride c.requires.steps.0 c.requires.holds k below

pub run-ys-requires : goal.run-ys-requires
run-ys-requires g c k below =
    ap is_some (c.borrowed-other_region.ensures (c.args.other_lane.place + k))
    ∙ contiguous_has (g.Z.Data.stored c.args.others.now) c.args.other_lane.place c.args.other_lane.count c.args.other_lane.stride c.requires.steps.1 c.requires.others_hold k below

pub answer_pairs_slice-requires-clause-callable : goal.answer_pairs_slice-requires-clause-callable
answer_pairs_slice-requires-clause-callable g c =
    let lane = c.args.lane in
    let other = c.args.other_lane in
    let xs = c.run-xs.result.now in
    let ys = c.run-ys.result.now in
    let found = pairs_at slice_get (in_turn xs) xs slice_get (in_turn ys) ys in
    let all = pairs_at g.S.Data.stored (along lane) c.args.storage.now g.Z.Data.stored (along other) c.args.others.now in
    let same : (k : ℕ) → k < lane.count → found k ≡ all k = λ k below. pair_alike
    (contiguous_found (g.S.Data.stored c.args.storage.now) lane.place lane.count lane.stride c.requires.steps.0 xs c.run-xs.ensures.count (λ j d under. sym (c.borrowed-region.ensures (lane.place + j)) ∙ c.run-xs.ensures.elements j d under) k below)
    (contiguous_found (g.Z.Data.stored c.args.others.now) other.place other.count other.stride c.requires.steps.1 ys c.run-ys.ensures.count (λ j d under. sym (c.borrowed-other_region.ensures (other.place + j)) ∙ c.run-ys.ensures.elements j d under) k (subst (λ n. k < n) (sym c.requires.as_long) below)) in
    subst (TakesNumbered (AnswersPair g.F.FnMut) (MayBeShownPair g.F.FnMut) found c.args.f) (sym c.run-xs.ensures.count)
    (takes_alike (AnswersPair g.F.FnMut) (MayBeShownPair g.F.FnMut) found all lane.count same c.args.f c.requires.callable)

pub returns-clause-pushed : goal.returns-clause-pushed
returns-clause-pushed g c =
    let lane = c.args.lane in
    let other = c.args.other_lane in
    let xs = c.run-xs.result.now in
    let ys = c.run-ys.result.now in
    let found = pairs_at slice_get (in_turn xs) xs slice_get (in_turn ys) ys in
    let all = pairs_at g.S.Data.stored (along lane) c.args.storage.now g.Z.Data.stored (along other) c.args.others.now in
    let same : (k : ℕ) → k < lane.count → found k ≡ all k = λ k below. pair_alike
    (contiguous_found (g.S.Data.stored c.args.storage.now) lane.place lane.count lane.stride c.requires.steps.0 xs c.run-xs.ensures.count (λ j d under. sym (c.borrowed-region.ensures (lane.place + j)) ∙ c.run-xs.ensures.elements j d under) k below)
    (contiguous_found (g.Z.Data.stored c.args.others.now) other.place other.count other.stride c.requires.steps.1 ys c.run-ys.ensures.count (λ j d under. sym (c.borrowed-other_region.ensures (other.place + j)) ∙ c.run-ys.ensures.elements j d under) k (subst (λ n. k < n) (sym c.requires.as_long) below)) in
    let many = subst (λ n. AnswersAfter (AnswersPair g.F.FnMut) found n c.args.items.now.items c.answer_pairs_slice.new.items.items c.args.f c.answer_pairs_slice.result) c.run-xs.ensures.count c.answer_pairs_slice.ensures.pushed in
    after_alike (AnswersPair g.F.FnMut) found all lane.count same c.args.items.now.items c.answer_pairs_slice.new.items.items c.args.f c.answer_pairs_slice.result many
