use Rattle.nd_layout.proofs.NamesFromOtherCrates.{◌≡◌, ◌∙◌, arith, sym, subst, length, get_or, pos, w64, to_z, of_z, to_z-of_z, IsPermutedBelow, permuted_none, permuted_more, permuted_all}
use Rattle.nd_layout.proofs.PermutedAxes.{axis_below}
use Rattle.nd_layout.proofs.layout.invert_split_and_permute_axes.permute_each.Goals as goal

pub loop-k-init : goal.loop-k-init
loop-k-init g c = (
  permuted_none 0 c.args.axes.now (g.D.Dimension.lengths c.args.dim.now) c.requires.each.0,
  permuted_none (pos 0) c.args.axes.now (g.T.StrideList.strides_of c.args.strides.now) (c.requires.each.0 ∙ sym c.requires.as_many),
)

pub loop-k-preserved : goal.loop-k-preserved
loop-k-preserved g c =
    let xs = g.D.Dimension.lengths c.args.dim.now in let ss = g.T.StrideList.strides_of c.args.strides.now in
    let item : to_z w64 (of_z w64 c.stride.result) ≡ get_or ss (get_or c.args.axes.now c.loop-k.k 0) (pos 0) = to_z-of_z w64 c.stride.result (record { sfits = c.stride.type_inv }) ∙ c.stride.ensures in (
      rw (c.set_length.ensures, c.length.ensures) (permuted_more 0 c.args.axes.now xs (g.D.Dimension.lengths c.loop-k.dim) c.loop-k.k c.loop-k-test.true c.loop-k.invariant.0),
      rw (c.set.ensures, item) (permuted_more (pos 0) c.args.axes.now ss (g.T.StrideList.strides_of c.loop-k.strides) c.loop-k.k c.loop-k-test.true c.loop-k.invariant.1),
    )

pub returns-clause-lengths : goal.returns-clause-lengths
returns-clause-lengths g c =
    let end : c.loop-k.k ≡ length c.args.axes.now = omega arith in let xs = g.D.Dimension.lengths c.args.dim.now in
    let out = g.D.Dimension.lengths c.loop-k.dim in
    permuted_all 0 c.args.axes.now xs out (subst (IsPermutedBelow 0 c.args.axes.now xs out) end c.loop-k.invariant.0)

pub returns-clause-strides : goal.returns-clause-strides
returns-clause-strides g c =
    let end : c.loop-k.k ≡ length c.args.axes.now = omega arith in let ss = g.T.StrideList.strides_of c.args.strides.now in
    let out = g.T.StrideList.strides_of c.loop-k.strides in
    permuted_all (pos 0) c.args.axes.now ss out (subst (IsPermutedBelow (pos 0) c.args.axes.now ss out) end c.loop-k.invariant.1)

pub stride-requires : goal.stride-requires
stride-requires g c = omega (arith, axis_below c.args.axes.now (length (g.D.Dimension.lengths c.args.dim.now)) c.loop-k.k c.requires.each c.loop-k-test.true, c.requires.as_many)
