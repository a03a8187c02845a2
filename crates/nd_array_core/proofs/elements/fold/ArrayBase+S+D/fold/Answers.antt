use Rattle.nd_array_core.proofs.NamesFromOtherCrates.{sym, subst, by_rank, FoldsEach, MayFoldEach, places_foldable, folds_all, folds_settled}
use Rattle.nd_array_core.specs.ArrayMeaning.{meaning_of}
use Rattle.nd_array_core.proofs.elements.fold.ArrayBase+S+D.fold.Goals as goal

pub fold_places-f-requires-clause-callable : goal.fold_places-f-requires-clause-callable
unfolding meaning_of
fold_places-f-requires-clause-callable g c =
    let array = c.args.self.now in
    let order = c.loop_order-order.result in
    subst (λ p. MayFoldEach g.F.FnMut g.S.Data.stored (by_rank p) array.storage (c.args.f, c.args.init)) (sym c.places.ensures)
    (places_foldable g.F.FnMut (g.S.Data.stored array.storage) array.layout.offset (g.D.Dimension.lengths array.layout.dim) (g.D.Strides.StrideList.strides_of array.layout.strides)
    order.offset (g.D.Dimension.lengths order.dim) (g.D.Strides.StrideList.strides_of order.strides) c.loop_order-order.ensures c.args.f c.args.init c.requires.callable)

pub returns-clause-visits : goal.returns-clause-visits
unfolding meaning_of
returns-clause-visits g c =
    let array = c.args.self.now in
    let order = c.loop_order-order.result in
    let stored = g.S.Data.stored array.storage in
    let ran = subst (λ p. FoldsEach g.F.FnMut g.S.Data.stored (by_rank p) array.storage (c.args.f, c.args.init) c.fold_places-f.result) c.places.ensures c.fold_places-f.ensures.ran in
    folds_all g.F.FnMut stored array.layout.offset (g.D.Dimension.lengths array.layout.dim) (g.D.Strides.StrideList.strides_of array.layout.strides)
    order.offset (g.D.Dimension.lengths order.dim) (g.D.Strides.StrideList.strides_of order.strides) c.loop_order-order.ensures c.args.f c.fold_places-f.result.0 c.args.init c.fold_places-f.result.1 ran

pub returns-clause-settled : goal.returns-clause-settled
returns-clause-settled g c h by free =
    let m = meaning_of c.args.self.now in
    folds_settled g.F.FnMut m.shape m.at c.args.f h by free c.args.init c.fold_places-f.result.1 (returns-clause-visits g c)
