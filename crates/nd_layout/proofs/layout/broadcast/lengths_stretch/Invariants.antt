use Rattle.nd_layout.proofs.NamesFromOtherCrates.{◌≡◌, drop, stretches}
use Rattle.nd_layout.proofs.layout.broadcast.lengths_stretch.Given as goal

abbrev pub invariant-loop-axis : goal.invariant-loop-axis
invariant-loop-axis l = stretches (drop l.axis l.from) (drop l.axis l.to) ≡ stretches l.from l.to
