use Rattle.nd_layout.proofs.steps.PlaceComputedByAxes.{IsOnTheWay}
use Rattle.nd_layout.proofs.layout.place_at.place_at.Given as goal

abbrev pub invariant-loop-axis : goal.invariant-loop-axis
invariant-loop-axis l = IsOnTheWay l.offset l.axis l.place l.lengths l.index l.strides
