use Rattle.nd_array_core.proofs.NamesFromOtherCrates.{◌∙◌, refl, sym, subst, place_of, by_rank, placement_of, elements_at, ClonesAreEqualAt, MayLackAt, PlacesDiffer, inside, stored_at, AnswersValue, MayBeGiven, MayGiveEach, ReplacesEach, ReplacesInPart, one_index, rearranged_numbers, indexes_taken, rearranged_there, answers_alike, value_by, on_err_from, ranks_apart, replaced_all, replaced_part, old_or_mapped}
use Rattle.nd_array_core.specs.ArrayMeaning.{meaning_of, element_at}
use Rattle.nd_array_core.proofs.elements_lemmas.LackOfMemory.{rearranged_refused}
use Rattle.nd_array_core.proofs.elements.mapv_inplace.ArrayBase+S+D.mapv_inplace.Goals as goal

pub replace_places-requires-clause-apart : goal.replace_places-requires-clause-apart
replace_places-requires-clause-apart g c =
    let array = c.args.self.now in
    let ns = g.D.Dimension.lengths array.layout.dim in
    let ss = g.D.Strides.StrideList.strides_of array.layout.strides in
    subst (λ p. PlacesDiffer (by_rank p)) (sym c.places.ensures) (ranks_apart _ _ _ _ _ _ c.loop_order-order.ensures
    (λ i j h q same. one_index ns ss array.layout.offset i j array.layout.as_many (array.separated g.met.S.DataMut.alone) h q same))

pub replace_places-requires-clause-clones : goal.replace_places-requires-clause-clones
unfolding meaning_of
replace_places-requires-clause-clones g c =
    let array = c.args.self.now in
    let by = c.loop_order-order.ensures in
    subst (λ p. ClonesAreEqualAt g.S.Elem.Clone.is_clone g.S.Data.stored (by_rank p) array.storage) (sym c.places.ensures)
    (λ rank x below e. c.requires.clones (by.index_of rank) x (sym (rearranged_there (g.S.Data.stored array.storage) _ _ _ _ _ _ by rank below) ∙ e))

pub replace_places-requires-clause-callable : goal.replace_places-requires-clause-callable
unfolding meaning_of
replace_places-requires-clause-callable g c =
    let array = c.args.self.now in
    let by = c.loop_order-order.ensures in
    let stored = g.S.Data.stored array.storage in
    subst (λ p. MayGiveEach g.F.FnMut g.S.Data.stored (by_rank p) array.storage c.args.f) (sym c.places.ensures)
    (indexes_taken (AnswersValue g.F.FnMut) (rearranged_numbers _ _ _ _ _ _ by) _ (elements_at g.S.Data.stored (by_rank (placement_of c.loop_order-order.result)) array.storage) (rearranged_there stored _ _ _ _ _ _ by)
    (MayBeGiven g.F.FnMut) c.args.f c.requires.callable)

pub returns-clause-visits : goal.returns-clause-visits
unfolding meaning_of
returns-clause-visits g c =
    let array = c.args.self.now in
    let done = subst (λ p. ReplacesEach g.F.FnMut g.S.Data.stored (by_rank p) array.storage c.replace_places.new.storage c.args.f c.in_ok-_f._f) c.places.ensures c.in_ok-_f.ensures.replaced in
    replaced_all (AnswersValue g.F.FnMut) _ _ _ _ _ _ c.loop_order-order.ensures (g.S.Data.stored array.storage) (g.S.Data.stored c.replace_places.new.storage) c.args.f c.in_ok-_f._f done

pub returns-clause-alike : goal.returns-clause-alike
unfolding meaning_of
returns-clause-alike g c h by =
    let array = c.args.self.now in
    let ns = g.D.Dimension.lengths array.layout.dim in
    let ss = g.D.Strides.StrideList.strides_of array.layout.strides in
    answers_alike (AnswersValue g.F.FnMut) ns (element_at array) (λ i. inside ns i (stored_at (g.S.Data.stored c.replace_places.new.storage) (place_of array.layout.offset ss i))) c.args.f h (value_by g.F.FnMut h c.args.f by)
    (λ i out. rw out refl) (λ i out. rw out refl) (returns-clause-visits g c)

pub returns-in_err-_f-clause-stopped : goal.returns-in_err-_f-clause-stopped
unfolding meaning_of
returns-in_err-_f-clause-stopped g c =
    let array = c.args.self.now in
    let ns = g.D.Dimension.lengths array.layout.dim in
    let ss = g.D.Strides.StrideList.strides_of array.layout.strides in
    let old = g.S.Data.stored array.storage in
    let new = g.S.Data.stored c.replace_places.new.storage in
    let part = subst (λ p. ReplacesInPart g.F.FnMut g.S.Data.stored (by_rank p) array.storage c.replace_places.new.storage c.args.f) c.places.ensures (c.in_err-_f.ensures {u = tt}).stopped in
    let some = replaced_part (AnswersValue g.F.FnMut) _ _ _ _ _ _ c.loop_order-order.ensures (λ i j h q same. one_index ns ss array.layout.offset i j array.layout.as_many (array.separated g.met.S.DataMut.alone) h q same) old new c.args.f part.1 part.0 part.2 part.3 in
    on_err_from _ c.from_residual.result some

pub returns-in_err-_f-clause-either : goal.returns-in_err-_f-clause-either
unfolding meaning_of
returns-in_err-_f-clause-either g c h by =
    let array = c.args.self.now in
    let ns = g.D.Dimension.lengths array.layout.dim in
    let ss = g.D.Strides.StrideList.strides_of array.layout.strides in
    let old = g.S.Data.stored array.storage in
    let new = g.S.Data.stored c.replace_places.new.storage in
    let part = subst (λ p. ReplacesInPart g.F.FnMut g.S.Data.stored (by_rank p) array.storage c.replace_places.new.storage c.args.f) c.places.ensures (c.in_err-_f.ensures {u = tt}).stopped in
    let some = replaced_part (AnswersValue g.F.FnMut) _ _ _ _ _ _ c.loop_order-order.ensures (λ i j h q same. one_index ns ss array.layout.offset i j array.layout.as_many (array.separated g.met.S.DataMut.alone) h q same) old new c.args.f part.1 part.0 part.2 part.3 in
    on_err_from _ c.from_residual.result
    (old_or_mapped (AnswersValue g.F.FnMut) ns c.args.f (element_at array) (λ i. inside ns i (stored_at new (place_of array.layout.offset ss i))) h (value_by g.F.FnMut h c.args.f by) some)

pub returns-in_err-_f-clause-refused : goal.returns-in_err-_f-clause-refused
unfolding meaning_of
returns-in_err-_f-clause-refused g c =
    let array = c.args.self.now in
    let refused = subst (λ p. MayLackAt g.S.Elem.Clone.is_infallible g.S.Data.stored (by_rank p) array.storage) c.places.ensures (c.in_err-_f.ensures {u = tt}).refused in
    on_err_from _ c.from_residual.result
    (rearranged_refused g.S.Elem.Clone.is_infallible (g.S.Data.stored array.storage) _ _ _ _ _ _ c.loop_order-order.ensures refused)
