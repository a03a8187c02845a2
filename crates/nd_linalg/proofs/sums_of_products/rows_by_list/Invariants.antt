use Rattle.std.proofs.Common.{◌≡◌, ℕ, ◌<◌, ◌≤◌, length}
use Rattle.std.specs.Prelude.{slice_get, vec_len, vec_capacity}
use Rattle.nd_linalg.specs.DotAndMatrixProducts.{row_sum}
use Rattle.nd_linalg.proofs.sums_of_products.rows_by_list.Given as goal

abbrev pub invariant-loop-i : goal.invariant-loop-i
invariant-loop-i g l = record {
  count : length l.sums.items ≡ l.i;
  len : vec_len l.sums ≡ l.i;
  room : l.rows ≤ vec_capacity l.sums;
  each : (i : ℕ) → i < l.i → slice_get l.sums.items i ≡ row_sum g.A.Arithmetic.plus g.A.Arithmetic.times g.A.Zero.zero l.cells l.list i;
}
