use Rattle.nd_elements.proofs.NamesFromOtherCrates.{IsFilledBelow, slowest_first}
use Rattle.nd_elements.proofs.base.from_shape_fn.slow_lengths.Given as goal

abbrev pub invariant-loop-nth : goal.invariant-loop-nth
invariant-loop-nth g l = IsFilledBelow 0 (slowest_first l.order (g.D.Dimension.lengths l.fn.dim)) (g.D.Dimension.lengths l.slow) l.nth
