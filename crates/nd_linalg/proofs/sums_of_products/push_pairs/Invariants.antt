use Rattle.std.proofs.Common.{◌≡◌, ℕ, ◌*◌, ◌<◌, length}
use Rattle.std.specs.Prelude.{slice_get, vec_len, vec_capacity}
use Rattle.nd_linalg.specs.DotAndMatrixProducts.{row_sum}
use Rattle.nd_linalg.proofs.sums_of_products.push_pairs.Given as goal

abbrev pub invariant-loop-pair : goal.invariant-loop-pair
invariant-loop-pair g l = record {
  count : length l.sums.items ≡ l.pair * 2;
  len : vec_len l.sums ≡ l.pair * 2;
  room : vec_capacity l.sums ≡ vec_capacity l.fn.sums;
  each : (i : ℕ) → i < l.pair * 2 → slice_get l.sums.items i ≡ row_sum g.A.Arithmetic.plus g.A.Arithmetic.times g.A.Zero.zero l.cells l.list i;
}
