use Rattle.nd_layout.proofs.NamesFromOtherCrates.{arith, rules, ◌≡◌, ◌-◌, ◌<◌, subst, w64, FitsSigned, to_z-of_z, size_of}
use Rattle.nd_layout.proofs.SizesOfChangedAxes.{size-le-product}
use Rattle.nd_layout.proofs.order_lemmas.AxisJoins.{IsJoinedFrom, joined_more, joined_all, joint_fits, later_fits, joined_checked, some_size}
use Rattle.nd_layout.proofs.order.joined_axes.join.Goals as goal

pub joined_with-next-requires-clause-fits : goal.joined_with-next-requires-clause-fits
joined_with-next-requires-clause-fits g c =
    let ns = g.D.Dimension.lengths c.args.dim.now in
    let some : 0 < size_of ns = some_size (size_of ns) (rw c.slice.ensures.lengths at (c.if-is_empty_shape.ensures).1) in
    let fits = joint_fits ns (g.T.StrideList.strides_of c.args.strides.now) c.requires.as_many some c.loop-axis.axis (c.loop-axis.axis - 1) c.loop-axis.at (g.D.Dimension.lengths c.loop-axis.dim) (g.T.StrideList.strides_of c.loop-axis.strides) (omega (arith, c.loop-axis-test.true)) c.loop-axis.invariant in
    rw (c.length-in-loop-axis.ensures, c.length.ensures) (omega (arith, fits, size-le-product ns, c.requires.checked))

pub joined_with-next-requires-clause-small : goal.joined_with-next-requires-clause-small
joined_with-next-requires-clause-small g c =
    let ns = g.D.Dimension.lengths c.args.dim.now in
    let some : 0 < size_of ns = some_size (size_of ns) (rw c.slice.ensures.lengths at (c.if-is_empty_shape.ensures).1) in
    let fits = later_fits ns (g.T.StrideList.strides_of c.args.strides.now) c.requires.as_many some c.loop-axis.axis (c.loop-axis.axis - 1) c.loop-axis.at (g.D.Dimension.lengths c.loop-axis.dim) (g.T.StrideList.strides_of c.loop-axis.strides) (omega (arith, c.loop-axis-test.true)) c.loop-axis.invariant in
    rw c.length.ensures (omega (arith, fits, size-le-product ns, c.requires.checked))

pub loop-axis-preserved : goal.loop-axis-preserved
loop-axis-preserved g c =
    let ns = g.D.Dimension.lengths c.args.dim.now in
    let some : 0 < size_of ns = some_size (size_of ns) (rw c.slice.ensures.lengths at (c.if-is_empty_shape.ensures).1) in
    let next = c.joined_with-next.result in let new : FitsSigned w64 next.stride = search rules in
    let joint = rw (to_z-of_z w64 c.stride-in-loop-axis.result (record { sfits = c.stride-in-loop-axis.type_inv }), to_z-of_z w64 c.stride.result (record { sfits = c.stride.type_inv }), c.length-in-loop-axis.ensures, c.length.ensures, c.stride-in-loop-axis.ensures, c.stride.ensures) at c.joined_with-next.ensures in
    rw (c.set_length-in-loop-axis.ensures, c.set_length.ensures, c.set.ensures, to_z-of_z w64 next.stride new)
    (joined_more ns (g.T.StrideList.strides_of c.args.strides.now) c.requires.as_many some c.loop-axis.axis (c.loop-axis.axis - 1) c.loop-axis.at (g.D.Dimension.lengths c.loop-axis.dim) (g.T.StrideList.strides_of c.loop-axis.strides) (omega (arith, c.loop-axis-test.true)) c.loop-axis.invariant next.at next.len next.stride joint)

pub returns-clause-joined : goal.returns-clause-joined
returns-clause-joined g c =
    let start : c.loop-axis.axis ≡ 0 = omega (arith, c.loop-axis-test.false) in
    joined_all (g.D.Dimension.lengths c.args.dim.now) (g.T.StrideList.strides_of c.args.strides.now) c.loop-axis.at (g.D.Dimension.lengths c.loop-axis.dim) (g.T.StrideList.strides_of c.loop-axis.strides)
    (subst (λ a. IsJoinedFrom (g.D.Dimension.lengths c.args.dim.now) (g.T.StrideList.strides_of c.args.strides.now) a c.loop-axis.at (g.D.Dimension.lengths c.loop-axis.dim) (g.T.StrideList.strides_of c.loop-axis.strides)) start c.loop-axis.invariant)

pub returns-clause-checked : goal.returns-clause-checked
returns-clause-checked g c =
    let ns = g.D.Dimension.lengths c.args.dim.now in let ss = g.T.StrideList.strides_of c.args.strides.now in
    let some : 0 < size_of ns = some_size (size_of ns) (rw c.slice.ensures.lengths at (c.if-is_empty_shape.ensures).1) in
    joined_checked 0 ns ss (g.D.Dimension.lengths c.loop-axis.dim) (g.T.StrideList.strides_of c.loop-axis.strides) (returns-clause-joined g c) some c.requires.checked
