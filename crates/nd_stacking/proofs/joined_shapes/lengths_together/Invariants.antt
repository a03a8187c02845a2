use Rattle.std.proofs.Common.{◌≡◌, take}
use Rattle.nd_array_core.specs.growth.AppendEach.{lengths_along, meanings_of}
use Rattle.nd_stacking.proofs.joined_shapes.lengths_together.Given as goal

abbrev pub invariant-loop-nth : goal.invariant-loop-nth
invariant-loop-nth g l = l.total ≡ lengths_along l.axis (take l.nth (meanings_of l.arrays))
