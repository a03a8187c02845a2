use Rattle.std.proofs.Common.{◌≡◌, ◌∙◌, suc, ◌+◌, ap, subst, arith}
use Rattle.nd_shape_and_slice.specs.ShapesAndIndexOrders.{in_box}
use Rattle.nd_shape_and_slice.specs.LayoutIndexMaps.{indexed_shape}
use Rattle.nd_array_core.specs.ArrayMeaning.{meaning_of, shape_of, element_at}
use Rattle.nd_numeric.specs.SumsProductsAndMeans.{AreFoldsBelow}
use Rattle.nd_numeric.proofs.LaneTotalsByCoordinates.{element_inside, totals_more}
use Rattle.nd_numeric.proofs.lanes_folded_together.take_coordinate.Goals as goal

pub returns-clause-folded : goal.returns-clause-folded
returns-clause-folded g c first so =
    let a = c.args.array.now in
    let gives = g.O.Operation.gives c.args.operation in
    let shows = c.index_axis-part.ensures.part in
    let law = c.elements_by_rank.ensures in
    let new = c.take_part.new.totals in
    let next : suc c.args.coordinate ≡ c.args.coordinate + 1 = omega arith in
    subst (λ n. AreFoldsBelow gives first a c.args.axis.0 n (element_at new)) next
    (totals_more gives first (element_at a) c.args.axis.0 (indexed_shape (shape_of a) c.args.axis.0) c.args.coordinate (element_at c.args.totals.now) (element_at new) (element_at c.index_axis-part.result)
    so shows.2 (λ i within. element_inside (meaning_of c.index_axis-part.result) law.count law.below law.each i (ap (λ ns. in_box ns i) shows.0 ∙ within)) c.take_part.ensures.taken)
