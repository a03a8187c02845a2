use Rattle.std.proofs.Common.{◌≡◌, length}
use Rattle.std.specs.Prelude.{max}
use Rattle.std.specs.List.{fold}
use Rattle.nd_array_core.specs.ArrayMeaning.{meaning_of}
use Rattle.nd_iter.specs.AxisLanes.{lanes_along}
use Rattle.uses_nd_iter_stacking_and_numeric.specs.WrappingListSums.{listed_sum}
use Rattle.uses_nd_iter_stacking_and_numeric.proofs.sums_and_maxima_by_iterators.greatest_lane_sum.Given as goal

abbrev pub invariant-loop-lane : goal.invariant-loop-lane
invariant-loop-lane g l =
    fold (λ most lane. max most (listed_sum lane.1)) l.most l.lanes ≡ fold (λ most lane. max most (listed_sum lane.1)) 0 (lanes_along (meaning_of l.array) l.fn.axis.0)

abbrev pub decreases-loop-lane : goal.decreases-loop-lane
decreases-loop-lane g l = length l.lanes
