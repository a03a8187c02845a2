use Rattle.nd_shape_and_slice.proofs.NamesFromOtherCrates.{◌≡◌, arith, rules, ap, length, get_or, ◌∙◌, pos, w64, to_z, of_z, FitsSigned, to_z-of_z, length-replicate}
use Rattle.nd_shape_and_slice.proofs.FillLoop.{filled_none, filled_more, filled_all}
use Rattle.nd_shape_and_slice.proofs.strides.strides_from.Goals as goal

pub loop-axis-init : goal.loop-axis-init
loop-axis-init g c =
    let zeros = ap length c.zero_strides-strides.ensures ∙ length-replicate (length (g.D.Dimension.lengths c.args.dim.now)) (pos 0) in
    filled_none (pos 0) c.args.list.now (g.D.Strides.StrideList.strides_of c.zero_strides-strides.result) (omega (arith, zeros, c.requires))

pub loop-axis-preserved : goal.loop-axis-preserved
loop-axis-preserved g c =
    let fits : FitsSigned w64 (get_or c.args.list.now c.loop-axis.axis (pos 0)) = search rules in
    let item : to_z w64 (of_z w64 (get_or c.args.list.now c.loop-axis.axis (pos 0))) ≡ get_or c.args.list.now c.loop-axis.axis (pos 0) = to_z-of_z w64 (get_or c.args.list.now c.loop-axis.axis (pos 0)) fits in
    rw c.set.ensures (filled_more (pos 0) c.args.list.now (g.D.Strides.StrideList.strides_of c.loop-axis.strides) c.loop-axis.axis (to_z w64 (of_z w64 (get_or c.args.list.now c.loop-axis.axis (pos 0)))) (omega (arith, c.loop-axis-test.true, c.requires, ap length c.slice-axis-end.ensures.lengths)) item c.loop-axis.invariant)

pub returns-clause-listed : goal.returns-clause-listed
returns-clause-listed g c =
    filled_all (pos 0) c.args.list.now (g.D.Strides.StrideList.strides_of c.loop-axis.strides) c.loop-axis.axis (omega (arith, c.loop-axis-test.false, c.requires, ap length c.slice-axis-end.ensures.lengths)) c.loop-axis.invariant
