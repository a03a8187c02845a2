use Rattle.nd_layout.proofs.NamesFromOtherCrates.{◌≡◌, arith, ap, length, get_or, ◌∙◌, pos, w64, to_z, of_z, insert, to_z-of_z, length-replicate, length-insert, filled_none, filled_more, filled_all}
use Rattle.nd_layout.proofs.layout.axes_inserted_or_removed.strides_with.Goals as goal

pub loop-k-init : goal.loop-k-init
loop-k-init g c =
    let long = length-insert c.args.list.now c.args.axis (pos 1) c.requires.on in
    let zeros = ap length c.zero_strides-out.ensures ∙ length-replicate (length (g.E.Dimension.lengths c.args.dim.now)) (pos 0) in
    filled_none (pos 0) (insert c.args.list.now c.args.axis (pos 1)) (g.E.Strides.StrideList.strides_of c.zero_strides-out.result) (omega (arith, long, zeros, c.requires.as_many))

pub loop-k-preserved : goal.loop-k-preserved
loop-k-preserved g c =
    let long = length-insert c.args.list.now c.args.axis (pos 1) c.requires.on in
    let item : to_z w64 (of_z w64 c.stride_with.result) ≡ get_or (insert c.args.list.now c.args.axis (pos 1)) c.loop-k.k (pos 0) = to_z-of_z w64 c.stride_with.result (record { sfits = c.stride_with.type_inv }) ∙ c.stride_with.ensures in
    rw c.set.ensures (filled_more (pos 0) (insert c.args.list.now c.args.axis (pos 1)) (g.E.Strides.StrideList.strides_of c.loop-k.out) c.loop-k.k (to_z w64 (of_z w64 c.stride_with.result)) (omega (arith, long, c.loop-k-test.true, c.requires.as_many, ap length c.slice-k-end.ensures.lengths)) item c.loop-k.invariant)

pub returns : goal.returns
returns g c =
    let long = length-insert c.args.list.now c.args.axis (pos 1) c.requires.on in
    filled_all (pos 0) (insert c.args.list.now c.args.axis (pos 1)) (g.E.Strides.StrideList.strides_of c.loop-k.out) c.loop-k.k (omega (arith, long, c.loop-k-test.false, c.requires.as_many, ap length c.slice-k-end.ensures.lengths)) c.loop-k.invariant
