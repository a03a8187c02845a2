use Rattle.nd_elements.proofs.NamesFromOtherCrates.{◌≡◌, ◌+◌, ◌<◌, ◌∙◌, pos, ◌+ℤ◌, ◌*ℤ◌, ap, rules, arith, w64, FitsSigned, to_z-of_z, size_of, is_place, IsStandard}
use Rattle.nd_elements.proofs.along_lemmas.AxisLanes.{contiguous_goes}
use Rattle.nd_elements.proofs.along.axis_lanes.AxisLanes.contiguous.Goals as goal

pub lane_from-requires-clause-reach : goal.lane_from-requires-clause-reach
lane_from-requires-clause-reach c k below =
    let lanes = c.args.self.now in
    let firsts = lanes.firsts in
    let fits : FitsSigned w64 lanes.stride = search rules in
    let standard : IsStandard firsts.lengths.now firsts.strides.now = c.is_standard.ensures.0 c.if-is_standard.true in
    let some : 0 < size_of firsts.lengths.now = omega (arith, c.if-self-ge-FEWEST_PARALLEL_LANES.true, lanes.many) in
    let first : firsts.first ≡ firsts.first + 0 = omega arith in
    (λ i. is_place (pos (first i) +ℤ (pos k *ℤ to_z-of_z w64 lanes.stride fits i))) ∙ (ap is_place (contiguous_goes firsts.first firsts.lengths.now firsts.strides.now lanes.stride standard 0 k some) ∙ lanes.lie 0 k some below)

pub returns-then-is_standard-clause-contiguous : goal.returns-then-is_standard-clause-contiguous
returns-then-is_standard-clause-contiguous c =
    let lanes = c.args.self.now in
    let firsts = lanes.firsts in
    let standard : IsStandard firsts.lengths.now firsts.strides.now = c.is_standard.ensures.0 c.if-is_standard.true in
    let made = c.lane_from.ensures.lane in
    (made.1, λ r k below. (λ i. pos (made.0 i + r) +ℤ (pos k *ℤ (made.2 ∙ to_z-of_z w64 lanes.stride (search rules)) i)) ∙ contiguous_goes firsts.first firsts.lengths.now firsts.strides.now lanes.stride standard r k below)
