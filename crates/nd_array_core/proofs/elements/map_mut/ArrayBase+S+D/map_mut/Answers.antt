use Rattle.nd_array_core.proofs.NamesFromOtherCrates.{◌≡◌, ◌∙◌, ℕ, [], List, refl, sym, subst, rules, size_of, index_at, place_of, RowMajor, by_rank, placement_of, elements_at, Holds, PlacesDiffer, stored_at, inside, found_by_rank, HandsEach, LeavesAndAnswers, MayBeHanded, MayHandEach, one_index, joined_has, joined_numbers, joined_there, joined_shows, indexes_taken, ranks_apart, others_stay}
use Rattle.nd_array_core.specs.ArrayMeaning.{meaning_of, memory_layout_of, element_at}
use Rattle.nd_array_core.proofs.elements_lemmas.ElementsHandedToBeWritten.{joined_order, collects_taken, handed_answered, handed_there, handed_left, handed_seen}
use Rattle.nd_array_core.proofs.elements.map_mut.ArrayBase+S+D.map_mut.Goals as goal

pub hand_places-f-requires-clause-apart : goal.hand_places-f-requires-clause-apart
hand_places-f-requires-clause-apart g c =
    let array = c.args.self.now in
    let order = c.join_axes.new.self in
    let ns = g.D.Dimension.lengths array.layout.dim in
    let ss = g.D.Strides.StrideList.strides_of array.layout.strides in
    let ms = g.D.Dimension.lengths order.dim in
    let ts = g.D.Strides.StrideList.strides_of order.strides in
    let joined = rw (c.copied-joined.ensures.lengths, c.copied-joined.ensures.strides) at c.join_axes.ensures.joined in
    let from = c.join_axes.ensures.offset ∙ c.copied-joined.ensures.offset in
    subst (λ p. PlacesDiffer (by_rank p)) (sym c.places.ensures)
    (ranks_apart array.layout.offset ns ss order.offset ms ts (joined_order ns ss ms ts joined array.layout.offset order.offset from) (λ i j h q same. one_index ns ss array.layout.offset i j array.layout.as_many (array.separated g.met.S.DataMut.alone) h q same))

pub hand_places-f-requires-clause-holds : goal.hand_places-f-requires-clause-holds
hand_places-f-requires-clause-holds g c =
    let array = c.args.self.now in
    let joined = rw (c.copied-joined.ensures.lengths, c.copied-joined.ensures.strides) at c.join_axes.ensures.joined in
    subst (λ p. Holds g.S.Data.stored (by_rank p) array.storage) (sym c.places.ensures) (joined_has (g.S.Data.stored array.storage) _ _ _ _ _ _ (c.join_axes.ensures.offset ∙ c.copied-joined.ensures.offset) joined array.inside)

pub hand_places-f-requires-clause-callable : goal.hand_places-f-requires-clause-callable
unfolding meaning_of
hand_places-f-requires-clause-callable g c =
    let array = c.args.self.now in
    let order = c.join_axes.new.self in
    let stored = g.S.Data.stored array.storage in
    let ns = g.D.Dimension.lengths array.layout.dim in
    let ss = g.D.Strides.StrideList.strides_of array.layout.strides in
    let ms = g.D.Dimension.lengths order.dim in
    let ts = g.D.Strides.StrideList.strides_of order.strides in
    let joined = rw (c.copied-joined.ensures.lengths, c.copied-joined.ensures.strides) at c.join_axes.ensures.joined in
    let from = c.join_axes.ensures.offset ∙ c.copied-joined.ensures.offset in
    subst (λ p. MayHandEach g.F.FnMut g.S.Data.stored (by_rank p) array.storage c.args.f []) (sym c.places.ensures)
    (collects_taken (LeavesAndAnswers g.F.FnMut) (MayBeHanded g.F.FnMut) (elements_at g.S.Data.stored (by_rank (placement_of order)) array.storage) c.args.f [] (size_of ms)
    (indexes_taken (LeavesAndAnswers g.F.FnMut) (joined_numbers ns ss ms ts joined) _ (elements_at g.S.Data.stored (by_rank (placement_of order)) array.storage) (joined_there ns ss ms ts joined stored array.layout.offset order.offset from)
    (MayBeHanded g.F.FnMut) c.args.f c.requires.callable))

pub invariant_of-self : goal.invariant_of-self
invariant_of-self g c =
    let array = c.args.self.now in
    let order = c.join_axes.new.self in
    let stored = g.S.Data.stored array.storage in
    let ns = g.D.Dimension.lengths array.layout.dim in
    let ss = g.D.Strides.StrideList.strides_of array.layout.strides in
    let ms = g.D.Dimension.lengths order.dim in
    let ts = g.D.Strides.StrideList.strides_of order.strides in
    let joined = rw (c.copied-joined.ensures.lengths, c.copied-joined.ensures.strides) at c.join_axes.ensures.joined in
    let from = c.join_axes.ensures.offset ∙ c.copied-joined.ensures.offset in
    let new = g.S.Data.stored c.hand_places-f.new.storage in
    let items = c.hand_places-f.result.1.items in
    let handed = subst (λ p. HandsEach g.F.FnMut g.S.Data.stored (by_rank p) array.storage c.hand_places-f.new.storage c.args.f c.hand_places-f.result) c.places.ensures c.hand_places-f.ensures.handed in
    record {
      inside = λ i inbox. rw inbox at (handed_there (LeavesAndAnswers g.F.FnMut) (joined_numbers ns ss ms ts joined) (by_rank (placement_of order)).place stored new (λ i. inside ns i (stored_at stored (place_of array.layout.offset ss i))) (λ i. inside ns i (stored_at new (place_of array.layout.offset ss i)))
          (joined_there ns ss ms ts joined stored array.layout.offset order.offset from) (joined_there ns ss ms ts joined new array.layout.offset order.offset from) c.args.f c.hand_places-f.result.0 items handed i inbox);
      separated = array.separated;
    }

pub returns : goal.returns
unfolding meaning_of memory_layout_of
returns g c =
    let array = c.args.self.now in
    let order = c.join_axes.new.self in
    let stored = g.S.Data.stored array.storage in
    let ns = g.D.Dimension.lengths array.layout.dim in
    let ss = g.D.Strides.StrideList.strides_of array.layout.strides in
    let ms = g.D.Dimension.lengths order.dim in
    let ts = g.D.Strides.StrideList.strides_of order.strides in
    let joined = rw (c.copied-joined.ensures.lengths, c.copied-joined.ensures.strides) at c.join_axes.ensures.joined in
    let from = c.join_axes.ensures.offset ∙ c.copied-joined.ensures.offset in
    let new = g.S.Data.stored c.hand_places-f.new.storage in
    let items = c.hand_places-f.result.1.items in
    let handed = subst (λ p. HandsEach g.F.FnMut g.S.Data.stored (by_rank p) array.storage c.hand_places-f.new.storage c.args.f c.hand_places-f.result) c.places.ensures c.hand_places-f.ensures.handed in
    let seen : (i : List ℕ) → element_at c.of_items.result i ≡ found_by_rank (ns, RowMajor) items i = λ i. c.of_items.ensures.owns.4 i ∙ (λ k. found_by_rank (c.raw_dim-dim.ensures k, RowMajor) (c.of_items.ensures.stored k) i) in
    let visits = handed_answered (LeavesAndAnswers g.F.FnMut) (joined_numbers ns ss ms ts joined) (by_rank (placement_of order)).place stored new _ (λ i. inside ns i (stored_at new (place_of array.layout.offset ss i)))
    (joined_there ns ss ms ts joined stored array.layout.offset order.offset from) (joined_there ns ss ms ts joined new array.layout.offset order.offset from) c.args.f c.hand_places-f.result.0 items handed
    (element_at c.of_items.result) (λ k below. seen (index_at ns k) ∙ joined_shows ns ss ms ts joined items k below) in
    record {
      shape = search rules;
      visits = visits;
      alike = λ h by. handed_left g.F.FnMut ns (λ i. inside ns i (stored_at stored (place_of array.layout.offset ss i))) (λ i. inside ns i (stored_at new (place_of array.layout.offset ss i))) (element_at c.of_items.result) c.args.f (λ i out. rw out refl) visits h by (λ i out. rw out refl);
      answered = λ h by. handed_seen g.F.FnMut ns (λ i. inside ns i (stored_at stored (place_of array.layout.offset ss i))) (λ i. inside ns i (stored_at new (place_of array.layout.offset ss i))) (element_at c.of_items.result) c.args.f (λ i out. rw out refl) visits h by (λ i out. seen i ∙ (rw out refl));
      refused = search rules;
      kept = search rules;
      frame = (refl, refl, (λ i. refl), others_stay array.layout.offset ns ss order.offset ms ts (joined_order ns ss ms ts joined array.layout.offset order.offset from) stored new handed.left, c.hand_places-f.ensures.frame, refl);
    }
