use Rattle.std.proofs.Common.{◌≡◌, ◌+◌}
use Rattle.std.specs.Prelude.{Some, slice_get}
use Rattle.nd_linalg.specs.DotAndMatrixProducts.{sum_of_products}
use Rattle.nd_linalg.proofs.sums_of_products.sum_two.Given as goal

abbrev pub invariant-loop-k : goal.invariant-loop-k
invariant-loop-k g l = record {
  first : Some l.one ≡ sum_of_products g.A.Arithmetic.plus g.A.Arithmetic.times g.A.Zero.zero (λ k. slice_get l.cells (l.from + k)) (slice_get l.list) l.k;
  second : Some l.two ≡ sum_of_products g.A.Arithmetic.plus g.A.Arithmetic.times g.A.Zero.zero (λ k. slice_get l.cells (l.next + k)) (slice_get l.list) l.k;
}
