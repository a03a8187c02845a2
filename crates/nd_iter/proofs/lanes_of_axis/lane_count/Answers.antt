use Rattle.std.proofs.Common.{◌∙◌, ap, sym, subst}
use Rattle.nd_shape_and_slice.specs.LayoutIndexMaps.{indexed_shape}
use Rattle.nd_shape_and_slice.specs.ShapesAndIndexOrders.{HasCheckedSize}
use Rattle.nd_array_core.proofs.NamesFromOtherCrates.{HasCheckedSize-removed}
use Rattle.nd_array_core.specs.ArrayMeaning.{shape_of}
use Rattle.nd_iter.proofs.lanes_of_axis.lane_count.Goals as goal

pub size-requires : goal.size-requires
size-requires g c =
    let array = c.args.array.now in
    let lengths = c.remove_axis-others.ensures ∙ ap (λ ns. indexed_shape ns c.args.axis.0) c.raw_dim.ensures in
    subst HasCheckedSize (sym lengths) (HasCheckedSize-removed (shape_of array) c.args.axis.0 c.requires c.shape_is_checked.ensures)
