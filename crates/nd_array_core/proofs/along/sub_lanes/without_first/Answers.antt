use Rattle.nd_array_core.proofs.NamesFromOtherCrates.{◌+◌, ap, ◌∙◌, arith, rules, w64, pos, ◌+ℤ◌, ◌*ℤ◌, FitsSigned, to_z-of_z, is_place}
use Rattle.nd_array_core.proofs.along_lemmas.LaneParts.{first_left}
use Rattle.nd_array_core.proofs.along.sub_lanes.without_first.Goals as goal

pub lane_from-requires-clause-reach : goal.lane_from-requires-clause-reach
lane_from-requires-clause-reach c k below =
    let lane = c.args.lane in
    let fits : FitsSigned w64 lane.stride = search rules in
    let some = c.requires in
    let moved = rw (to_z-of_z w64 lane.stride fits) at c.wrapping_add_signed.ensures in
    rw (to_z-of_z w64 lane.stride fits)
    (ap is_place (first_left lane.place lane.count lane.stride lane.from lane.reach c.wrapping_add_signed.result moved k (omega (arith, below)))
    ∙ lane.reach (1 + k) (omega (arith, below)))

pub returns-clause-places : goal.returns-clause-places
returns-clause-places c k below =
    let lane = c.args.lane in
    let fits : FitsSigned w64 lane.stride = search rules in
    let moved = rw (to_z-of_z w64 lane.stride fits) at c.wrapping_add_signed.ensures in
    let lies = rw (to_z-of_z w64 lane.stride fits) at c.lane_from.ensures.lane in
    let long = lies.1 in
    (λ i. pos (lies.0 i) +ℤ (pos k *ℤ lies.2 i)) ∙ first_left lane.place lane.count lane.stride lane.from lane.reach c.wrapping_add_signed.result moved k (omega (arith, below, long))
