use Rattle.std.proofs.Common.{◌≡◌, ℕ, ◌+◌, ◌<◌, ◌≤◌, length}
use Rattle.std.specs.Prelude.{slice_get}
use Rattle.nd_linalg.specs.DotAndMatrixProducts.{column_sum}
use Rattle.nd_linalg.proofs.sums_of_products.add_four.Given as goal

abbrev pub invariant-loop-j : goal.invariant-loop-j
invariant-loop-j g l = record {
  count : length l.sums ≡ length l.fn.sums;
  done : (j : ℕ) → j < l.j → slice_get l.sums j ≡ column_sum g.A.Arithmetic.plus g.A.Arithmetic.times g.A.Zero.zero l.left l.from l.right (length l.fn.sums) j (l.done + 4);
  left : (j : ℕ) → l.j ≤ j → slice_get l.sums j ≡ slice_get l.fn.sums j;
}
