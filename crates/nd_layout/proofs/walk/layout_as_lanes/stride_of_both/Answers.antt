use Rattle.nd_layout.proofs.NamesFromOtherCrates.{refl, arith, w64, to_z-of_z}
use Rattle.nd_layout.proofs.walk_lemmas.JoinedAxesAsLane.{steps_on, steps_within}
use Rattle.nd_layout.proofs.walk.layout_as_lanes.stride_of_both.Goals as goal

pub returns-then-continues : goal.returns-then-continues
returns-then-continues c =
    let outer = to_z-of_z w64 c.args.outer c.ranges.outer in
    let inner = to_z-of_z w64 c.args.inner c.ranges.inner in
    rw inner (steps_on c.args.skips_ones c.args.len c.args.outer c.args.count c.args.inner (rw (outer, inner) at ((c.if-continues.ensures).0 refl)))

pub returns-then-len-eq1 : goal.returns-then-len-eq1
returns-then-len-eq1 c = rw (to_z-of_z w64 c.args.inner c.ranges.inner) (steps_within c.args.skips_ones c.args.len c.args.outer c.args.count c.args.inner c.if-skips_ones.true (omega (arith, c.if-len-eq1.true)))
