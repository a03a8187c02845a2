use Rattle.std.proofs.Common.{◌∙◌, ◌<◌, ap, sym, subst}
use Rattle.nd_shape_and_slice.specs.LayoutIndexMaps.{indexed_shape}
use Rattle.nd_shape_and_slice.specs.ShapesAndIndexOrders.{in_box, index_at, size_of}
use Rattle.nd_shape_and_slice.proofs.RowMajorNumberInverse.{in_box-index_at}
use Rattle.nd_array_core.specs.ArrayMeaning.{meaning_of, shape_of}
use Rattle.nd_array_core.specs.along.AxisMaps.{lane_of}
use Rattle.nd_iter.specs.IteratedElements.{listing}
use Rattle.nd_iter.proofs.lanes_of_axis.numbered.Goals as goal

pub index_in-index-requires : goal.index_in-index-requires
index_in-index-requires g c =
    let array = c.args.array.now in
    let lengths = c.remove_axis-others.ensures ∙ ap (λ ns. indexed_shape ns c.args.axis) c.raw_dim.ensures in
    subst (λ ns. c.args.number < size_of ns) (sym lengths) c.requires.within

pub lane_at-requires-clause-within : goal.lane_at-requires-clause-within
lane_at-requires-clause-within g c =
    let array = c.args.array.now in
    let os = indexed_shape (shape_of array) c.args.axis in
    let lengths = c.remove_axis-others.ensures ∙ ap (λ ns. indexed_shape ns c.args.axis) c.raw_dim.ensures in
    ap (in_box os) (c.index_in-index.ensures ∙ ap (λ ns. index_at ns c.args.number) lengths) ∙ in_box-index_at os c.args.number c.requires.within

pub returns : goal.returns
returns g c =
    let array = c.args.array.now in
    let lengths = c.remove_axis-others.ensures ∙ ap (λ ns. indexed_shape ns c.args.axis) c.raw_dim.ensures in
    ap listing (c.into_view.ensures.meaning ∙ (c.lane_at.ensures.lane ∙ ap (lane_of (meaning_of array) c.args.axis) (c.index_in-index.ensures ∙ ap (λ ns. index_at ns c.args.number) lengths)))
