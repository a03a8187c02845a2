use Rattle.nd_layout.proofs.NamesFromOtherCrates.{rules, refl, FitsSigned, w64, to_z-of_z}
use Rattle.nd_layout.proofs.order_lemmas.AxisJoins.{joint_kept, joint_taken, joint_glued}
use Rattle.nd_layout.proofs.order.joined_axes.joined_with.Goals as goal

pub returns-then-len-eq1 : goal.returns-then-len-eq1
returns-then-len-eq1 c = rw c.if-len-eq1.true (joint_kept c.args.stride c.args.later.at c.args.later.len c.args.later.stride)

pub returns-then-later-eq1 : goal.returns-then-later-eq1
returns-then-later-eq1 c = rw (to_z-of_z w64 c.args.stride c.ranges.stride, c.if-later-eq1.true) (joint_taken c.args.len c.args.stride c.args.later.at c.args.later.stride)

pub returns-then-continues : goal.returns-then-continues
returns-then-continues c =
    let later : FitsSigned w64 c.args.later.stride = search rules in
    let goes_on = (c.if-continues.ensures).0 refl in
    rw (to_z-of_z w64 c.args.later.stride later) (joint_glued c.args.len c.args.stride c.args.later.at c.args.later.len c.args.later.stride (rw (to_z-of_z w64 c.args.stride c.ranges.stride, to_z-of_z w64 c.args.later.stride later) at goes_on))
