use Rattle.std.proofs.Common.{◌≡◌}
use Rattle.std.specs.List.{fold}
use Rattle.nd_array_core.specs.CollectedElements.{collected}
use Rattle.nd_array_core.specs.ElementsByCoordinates.{element_of_2}
use Rattle.nd_numeric.proofs.outer_product_and_trace.trace.Given as goal

abbrev pub invariant-loop-k : goal.invariant-loop-k
invariant-loop-k g l = l.total ≡ fold g.A.Arithmetic.plus g.A.Zero.zero (collected (λ k. element_of_2 l.table k k) l.k)
