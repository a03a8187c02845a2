use Rattle.nd_array_core.proofs.NamesFromOtherCrates.{ap, ◌∙◌, ◌+◌, arith, rules, w64, pos, ◌+ℤ◌, ◌*ℤ◌, FitsSigned, to_z-of_z, is_place}
use Rattle.nd_array_core.proofs.along_lemmas.LaneParts.{places_from}
use Rattle.nd_array_core.proofs.along.sub_lanes.part_of.Goals as goal

pub lane_from-requires-clause-reach : goal.lane_from-requires-clause-reach
lane_from-requires-clause-reach c k below =
    let lane = c.args.lane in
    let fits : FitsSigned w64 lane.stride = search rules in
    let within = c.requires.within in
    rw (to_z-of_z w64 lane.stride fits)
    (ap is_place (places_from lane.place c.place_of.result c.args.from lane.stride c.place_of.ensures k) ∙ lane.reach (c.args.from + k) (omega (arith, below, within)))

pub returns-clause-places : goal.returns-clause-places
returns-clause-places c k below =
    let lane = c.args.lane in
    let fits : FitsSigned w64 lane.stride = search rules in
    let lies = rw (to_z-of_z w64 lane.stride fits) at c.lane_from.ensures.lane in
    (λ i. pos (lies.0 i) +ℤ (pos k *ℤ lies.2 i)) ∙ places_from lane.place c.place_of.result c.args.from lane.stride c.place_of.ensures k
