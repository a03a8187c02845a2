use Rattle.nd_layout.proofs.NamesFromOtherCrates.{◌≡◌, arith, get_or, ◌∙◌, pos, w64, to_z, of_z, to_z-of_z, filled_none, filled_more, filled_all}
use Rattle.nd_layout.specs.StridesAfterLayoutCalls.{broadcast_strides}
use Rattle.nd_layout.proofs.steps.BroadcastStep.{length-broadcast}
use Rattle.nd_layout.proofs.layout.broadcast.put_strides_under.Goals as goal

pub loop-axis-init : goal.loop-axis-init
loop-axis-init g c =
    let to = c.args.to.now in let wanted = broadcast_strides c.args.from.now c.args.strides.now to in
    let long = length-broadcast c.args.from.now to c.args.strides.now c.requires.as_many c.requires.more in
    filled_none (pos 0) wanted (g.T.StrideList.strides_of c.args.out.now) (omega (arith, c.requires.wide, long))

pub loop-axis-preserved : goal.loop-axis-preserved
loop-axis-preserved g c =
    let to = c.args.to.now in let wanted = broadcast_strides c.args.from.now c.args.strides.now to in
    let long = length-broadcast c.args.from.now to c.args.strides.now c.requires.as_many c.requires.more in
    let item : to_z w64 (of_z w64 c.stride_under.result) ≡ get_or wanted c.loop-axis.axis (pos 0) =
    to_z-of_z w64 c.stride_under.result (record { sfits = c.stride_under.type_inv }) ∙ c.stride_under.ensures in
    rw c.set.ensures (filled_more (pos 0) wanted (g.T.StrideList.strides_of c.loop-axis.out) c.loop-axis.axis (to_z w64 (of_z w64 c.stride_under.result)) (omega (arith, long, c.loop-axis-test.true)) item c.loop-axis.invariant)

pub returns : goal.returns
returns g c =
    let to = c.args.to.now in let wanted = broadcast_strides c.args.from.now c.args.strides.now to in
    let long = length-broadcast c.args.from.now to c.args.strides.now c.requires.as_many c.requires.more in
    filled_all (pos 0) wanted (g.T.StrideList.strides_of c.loop-axis.out) c.loop-axis.axis (omega (arith, long, c.loop-axis-test.false)) c.loop-axis.invariant
