use Rattle.nd_layout.proofs.NamesFromOtherCrates.{◌≡◌, max, drop, set}
use Rattle.nd_layout.specs.GrowthAlongAxis.{greatest_step}
use Rattle.nd_layout.proofs.growing.memory_order_for_growth.greatest_step_of_others.Given as goal

abbrev pub invariant-loop-other : goal.invariant-loop-other
invariant-loop-other l = max l.greatest (greatest_step (drop l.other (set l.lengths l.axis 1)) (drop l.other l.strides)) ≡ greatest_step (set l.lengths l.axis 1) l.strides
