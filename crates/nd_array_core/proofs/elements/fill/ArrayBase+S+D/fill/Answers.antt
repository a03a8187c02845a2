use Rattle.nd_array_core.proofs.NamesFromOtherCrates.{subst, OnErr, on_err_weaker, by_rank, MayLackForClones}
use Rattle.nd_array_core.specs.ArrayMeaning.{meaning_of}
use Rattle.nd_array_core.proofs.elements_lemmas.LackOfMemory.{value_refused}
use Rattle.nd_array_core.proofs.elements.fill.ArrayBase+S+D.fill.Goals as goal

pub returns-clause-refused : goal.returns-clause-refused
unfolding meaning_of
returns-clause-refused g c =
    let layout = c.args.self.now.layout in
    let order = c.loop_order-order.result in
    let refused = subst (λ p. OnErr c.fill_places.result (MayLackForClones g.S.Elem.Clone.is_infallible c.args.value (by_rank p).count)) c.places.ensures c.fill_places.ensures.refused in
    on_err_weaker c.fill_places.result
    (value_refused g.S.Elem.Clone.is_infallible c.args.value layout.offset (g.D.Dimension.lengths layout.dim) (g.D.Strides.StrideList.strides_of layout.strides) order.offset (g.D.Dimension.lengths order.dim) (g.D.Strides.StrideList.strides_of order.strides) c.loop_order-order.ensures)
    refused
