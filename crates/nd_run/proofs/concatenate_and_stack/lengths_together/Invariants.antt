use Rattle.std.proofs.Common.{◌≡◌, ◌+◌, get_or, map, take}
use Rattle.nd_array_core.specs.ArrayMeaning.{shape_of}
use Rattle.nd_array_core.specs.growth.AppendEach.{lengths_along}
use Rattle.nd_run.proofs.concatenate_and_stack.lengths_together.Given as goal

abbrev pub invariant-loop-other : goal.invariant-loop-other
invariant-loop-other g l = l.total ≡ get_or (shape_of l.array) l.axis 0 + lengths_along l.axis (take l.other-index (map g.T.HoldsArray.held l.others))
