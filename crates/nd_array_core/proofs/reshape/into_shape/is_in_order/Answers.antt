use Rattle.nd_array_core.proofs.reshape_lemmas.IndexesAfterReshape.{reversed_in_order, in_order_reversed}
use Rattle.nd_array_core.proofs.reshape.into_shape.is_in_order.Goals as goal

pub returns-in-ColumnMajor : goal.returns-in-ColumnMajor
returns-in-ColumnMajor g c =
    let ns = g.D.Dimension.lengths c.args.layout.now.dim in
    let ss = g.T.StrideList.strides_of c.args.layout.now.strides in
    let asked = c.is_standard-in-ColumnMajor.ensures in
    let told = rw (c.slice-in-ColumnMajor.ensures.lengths, c.slice-in-ColumnMajor-2.ensures, c.reverse_axes.ensures.lengths, c.reverse_axes.ensures.strides, c.copied-turned.ensures.lengths, c.copied-turned.ensures.strides) at asked in
    rw c.in-ColumnMajor.is
    (λ yes. reversed_in_order ns ss c.args.layout.now.as_many (told.0 yes), λ laid. told.1 (in_order_reversed ns ss c.args.layout.now.as_many laid))
