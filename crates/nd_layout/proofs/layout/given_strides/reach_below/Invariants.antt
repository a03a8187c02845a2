use Rattle.nd_layout.proofs.NamesFromOtherCrates.{◌≡◌, ◌+◌, drop}
use Rattle.nd_layout.specs.StridesAfterLayoutCalls.{reach_down}
use Rattle.nd_layout.proofs.layout.given_strides.reach_below.Given as goal

abbrev pub invariant-loop-axis : goal.invariant-loop-axis
invariant-loop-axis l = l.offset + reach_down (drop l.axis l.lengths) (drop l.axis l.strides) ≡ reach_down l.lengths l.strides
