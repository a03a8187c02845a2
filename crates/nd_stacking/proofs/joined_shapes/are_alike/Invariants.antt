use Rattle.std.proofs.Common.{◌≡◌, true, take}
use Rattle.std.specs.List.{list_all}
use Rattle.nd_array_core.specs.growth.AppendEach.{meanings_of}
use Rattle.nd_stacking.specs.ConcatenateAndStack.{is_alike_but}
use Rattle.nd_stacking.proofs.joined_shapes.are_alike.Given as goal

abbrev pub invariant-loop-nth : goal.invariant-loop-nth
invariant-loop-nth g l = list_all (λ m. is_alike_but l.axis (g.D.Dimension.lengths l.first) m.shape) (take l.nth (meanings_of l.arrays)) ≡ true
