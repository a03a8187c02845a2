use Rattle.nd_layout.proofs.NamesFromOtherCrates.{◌≡◌, ◌+◌, ◌-◌, ◌<◌, ℕ, pos, get_or, arith, rules, Fits, FitsSigned, w64, to_z-of_z}
use Rattle.nd_layout.proofs.walk_lemmas.JoinedAxesAsLane.{lane_small, lane_fits, lane_more, lane_reach, lane_from}
use Rattle.nd_layout.proofs.walk.layout_as_lanes.Places.joined.Goals as goal

pub stride_of_both-requires : goal.stride_of_both-requires
stride_of_both-requires c =
    let places = c.args.self.now in
    lane_small places.lengths.now places.strides.now c.args.skips_ones c.loop-axis.axis c.loop-axis.count _ c.loop-axis.invariant places.checked

pub overflow_mul-count : goal.overflow_mul-count
overflow_mul-count c =
    let places = c.args.self.now in
    let next : c.loop-axis.axis ≡ c.loop-axis.axis - 1 + 1 = omega (arith, c.loop-axis-test.true) in
    fits (lane_fits places.lengths.now places.strides.now c.args.skips_ones places.as_many c.loop-axis.axis (c.loop-axis.axis - 1) c.loop-axis.count _ next c.loop-axis.invariant places.checked)
  where
    fits : {x : ℕ} → x < 9223372036854775808 → Fits w64 x
    fits h = omega (arith, h)

pub loop-axis-preserved : goal.loop-axis-preserved
loop-axis-preserved c =
    let places = c.args.self.now in
    let next : c.loop-axis.axis ≡ c.loop-axis.axis - 1 + 1 = omega (arith, c.loop-axis-test.true) in
    let outer : FitsSigned w64 (get_or places.strides.now (c.loop-axis.axis - 1) (pos 0)) = search rules in
    let whole : FitsSigned w64 c.in-Some.whole = search rules in
    rw (to_z-of_z w64 c.in-Some.whole whole)
    (lane_more places.lengths.now places.strides.now c.args.skips_ones places.as_many c.loop-axis.axis (c.loop-axis.axis - 1) c.loop-axis.count _ next c.loop-axis.invariant c.in-Some.whole (omega (arith, c.if-len-eq0.false)) (rw (to_z-of_z w64 (get_or places.strides.now (c.loop-axis.axis - 1) (pos 0)) outer) at c.in-Some.ensures))

pub invariant_of-result : goal.invariant_of-result
invariant_of-result c =
    let places = c.args.self.now in
    let start : c.loop-axis.axis ≡ 0 = omega (arith, c.loop-axis-test.false) in
    let all = rw start at c.loop-axis.invariant in
    record {
      few = lane_small places.lengths.now places.strides.now c.args.skips_ones 0 c.loop-axis.count _ all places.checked;
      from = lane_from places.first places.lengths.now places.strides.now c.args.skips_ones c.loop-axis.count _ all places.reach;
      reach = lane_reach places.first places.lengths.now places.strides.now c.args.skips_ones c.loop-axis.count _ all places.reach;
    }
