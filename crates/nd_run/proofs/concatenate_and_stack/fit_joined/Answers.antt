use Rattle.std.proofs.Common.{◌+◌, ◌^◌, get_or, map, set, sym}
use Rattle.nd_shape_and_slice.specs.ShapesAndIndexOrders.{nonzero_product}
use Rattle.nd_array_core.specs.ArrayMeaning.{shape_of}
use Rattle.nd_array_core.specs.growth.AppendEach.{lengths_along}
use Rattle.nd_stacking.proofs.ConcatenationShapeChecks.{false_from_not, too_long}
use Rattle.nd_run.proofs.concatenate_and_stack.fit_joined.Goals as goal

pub returns-in-None : goal.returns-in-None
returns-in-None g c =
    let ns = shape_of c.args.array.now in
    let axis = c.args.axis in
    let together = get_or ns axis 0 + lengths_along axis (map g.T.HoldsArray.held c.args.others.now) in
    sym (false_from_not (nonzero_product (set ns axis together)) (2 ^ 63) (too_long ns axis together c.requires (c.lengths_together.ensures.many c.in-None.is)))
