use Rattle.nd_array_core.proofs.NamesFromOtherCrates.{◌≡◌, ap, ◌∙◌, Some, option_map}
use Rattle.nd_array_core.proofs.base.from_shape.laid_out.Goals as goal

pub returns-in_ok-offset-in-Some-clause-laid : goal.returns-in_ok-offset-in-Some-clause-laid
returns-in_ok-offset-in-Some-clause-laid g c =
    let given = c.into_stride_shape-given.ensures in
    let strides_of = g.D.Strides.StrideList.strides_of in
    let lengths : g.D.Dimension.lengths c.raw_dim.result.now ≡ g.Sh.IntoStrideShape.lengths_meant c.args.shape = ap g.D.Dimension.lengths c.raw_dim.ensures ∙ given.lengths in
    let strides : Some (strides_of c.in-Some.strides) ≡ g.Sh.IntoStrideShape.strides_meant c.args.shape = ap (option_map strides_of) c.in-Some.ensures.strides ∙ given.strides in
    rw (lengths, strides) at (c.laid_by_strides.ensures.laid (g.Sh.IntoStrideShape.order_meant c.args.shape))
