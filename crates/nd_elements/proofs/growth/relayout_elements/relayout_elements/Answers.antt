use Rattle.nd_elements.proofs.NamesFromOtherCrates.{◌≡◌, ◌+◌, ◌≤◌, sym, subst, arith, slice_get, size_of, by_rank}
use Rattle.nd_elements.specs.ElementsAtNumberedPlaces.{PlacesDiffer, Holds, all_elements_at}
use Rattle.nd_elements.specs.BorrowedAndOwnedStorages.{stored_list}
use Rattle.nd_elements.proofs.growth_lemmas.RelayoutToGrow.{relaid_apart, relaid_holds, relaid_element}
use Rattle.nd_elements.proofs.growth.relayout_elements.relayout_elements.Goals as goal

pub move_in_order-requires-clause-apart : goal.move_in_order-requires-clause-apart
move_in_order-requires-clause-apart g c =
    let layout = c.args.layout.now in let order = c.growing_order-order.result in
    subst (λ p. PlacesDiffer (by_rank p)) (sym c.places.ensures) (relaid_apart c.args.axis layout.offset (g.D.Dimension.lengths layout.dim) (g.D.Strides.StrideList.strides_of layout.strides)
    order.offset (g.D.Dimension.lengths order.dim) (g.D.Strides.StrideList.strides_of order.strides) c.growing_order-order.ensures.order layout.as_many c.requires.apart)

pub move_in_order-requires-clause-holds : goal.move_in_order-requires-clause-holds
move_in_order-requires-clause-holds g c =
    let layout = c.args.layout.now in let order = c.growing_order-order.result in
    subst (λ p. Holds slice_get (by_rank p) (stored_list c.args.storage.now)) (sym c.places.ensures) (relaid_holds c.args.axis layout.offset (g.D.Dimension.lengths layout.dim) (g.D.Strides.StrideList.strides_of layout.strides)
    order.offset (g.D.Dimension.lengths order.dim) (g.D.Strides.StrideList.strides_of order.strides) c.growing_order-order.ensures.order (slice_get (stored_list c.args.storage.now)) c.requires.holds)

pub move_in_order-requires-clause-room : goal.move_in_order-requires-clause-room
move_in_order-requires-clause-room g c =
    subst (λ p. size_of p.lengths ≤ c.size-size.result + c.args.more) (sym c.places.ensures) (omega (arith, c.growing_order-order.ensures.order.size, c.size-size.ensures))

pub returns-clause-elements : goal.returns-clause-elements
returns-clause-elements g c =
    let order = c.growing_order-order.result in let items = c.move_in_order.new.items.items in
    relaid_element c.args.axis c.args.layout.now.offset (g.D.Dimension.lengths c.args.layout.now.dim) (g.D.Strides.StrideList.strides_of c.args.layout.now.strides)
    order.offset (g.D.Dimension.lengths order.dim) (g.D.Strides.StrideList.strides_of order.strides) c.growing_order-order.ensures.order
    (slice_get (stored_list c.args.storage.now)) c.requires.holds items c.growing-fresh.result.offset (g.D.Strides.StrideList.strides_of c.growing-fresh.result.strides)
    (subst (λ p. items ≡ all_elements_at slice_get (by_rank p) (stored_list c.args.storage.now)) c.places.ensures c.in_ok-move_in_order.ensures.moved) c.growing-fresh.ensures.offset c.growing-fresh.ensures.strides
