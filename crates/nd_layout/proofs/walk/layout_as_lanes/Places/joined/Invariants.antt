use Rattle.nd_layout.proofs.walk_lemmas.JoinedAxesAsLane.{IsLaneFrom}
use Rattle.nd_layout.proofs.walk.layout_as_lanes.Places.joined.Given as goal

abbrev pub invariant-loop-axis : goal.invariant-loop-axis
invariant-loop-axis l = IsLaneFrom l.fn.self.lengths.now l.fn.self.strides.now l.fn.skips_ones l.axis l.count l.stride

abbrev pub decreases-loop-axis : goal.decreases-loop-axis
decreases-loop-axis l = l.axis
