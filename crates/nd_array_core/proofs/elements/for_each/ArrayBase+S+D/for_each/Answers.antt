use Rattle.nd_array_core.proofs.NamesFromOtherCrates.{sym, subst, by_rank, placement_of, elements_at, AnswersElement, MayBeShown, MayShowEach, CallsWithEach, rearranged_numbers, rearranged_there, indexes_taken, indexes_visited}
use Rattle.nd_array_core.specs.ArrayMeaning.{meaning_of}
use Rattle.nd_array_core.proofs.elements.for_each.ArrayBase+S+D.for_each.Goals as goal

pub show_places-requires-clause-callable : goal.show_places-requires-clause-callable
unfolding meaning_of
show_places-requires-clause-callable g c =
    let array = c.args.self.now in
    let order = c.loop_order-order.result in
    let stored = g.S.Data.stored array.storage in
    let ns = g.D.Dimension.lengths array.layout.dim in
    let ss = g.D.Strides.StrideList.strides_of array.layout.strides in
    let ms = g.D.Dimension.lengths order.dim in
    let ts = g.D.Strides.StrideList.strides_of order.strides in
    let by = c.loop_order-order.ensures in
    subst (λ p. MayShowEach g.F.FnMut g.S.Data.stored (by_rank p) array.storage c.args.f) (sym c.places.ensures)
    (indexes_taken (AnswersElement g.F.FnMut) (rearranged_numbers array.layout.offset ns ss order.offset ms ts by) _ (elements_at g.S.Data.stored (by_rank (placement_of order)) array.storage) (rearranged_there stored array.layout.offset ns ss order.offset ms ts by)
    (MayBeShown g.F.FnMut) c.args.f c.requires.callable)

pub returns : goal.returns
unfolding meaning_of
returns g c =
    let array = c.args.self.now in
    let order = c.loop_order-order.result in
    let stored = g.S.Data.stored array.storage in
    let ns = g.D.Dimension.lengths array.layout.dim in
    let ss = g.D.Strides.StrideList.strides_of array.layout.strides in
    let ms = g.D.Dimension.lengths order.dim in
    let ts = g.D.Strides.StrideList.strides_of order.strides in
    let by = c.loop_order-order.ensures in
    let ran = subst (λ p. CallsWithEach g.F.FnMut g.S.Data.stored (by_rank p) array.storage c.args.f c.show_places.result) c.places.ensures c.show_places.ensures.ran in
    record {
      visits = (
        c.show_places.result,
        indexes_visited (AnswersElement g.F.FnMut) (rearranged_numbers array.layout.offset ns ss order.offset ms ts by) _ (elements_at g.S.Data.stored (by_rank (placement_of order)) array.storage) (rearranged_there stored array.layout.offset ns ss order.offset ms ts by)
            c.args.f c.show_places.result ran,
      );
    }
