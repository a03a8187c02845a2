use Rattle.std.proofs.Common.{◌≡◌, ℕ, ◌+◌, ◌*◌, ◌<◌, ◌≤◌, length}
use Rattle.std.specs.Prelude.{slice_get, vec_len, vec_capacity}
use Rattle.nd_linalg.specs.DotAndMatrixProducts.{sum_of_products}
use Rattle.nd_linalg.proofs.sums_of_products.product_of.Given as goal

abbrev pub invariant-loop-i : goal.invariant-loop-i
invariant-loop-i g l = record {
  wide : length l.sums ≡ l.columns;
  count : length l.cells.items ≡ l.i * l.columns;
  len : vec_len l.cells ≡ l.i * l.columns;
  room : l.rows * l.columns ≤ vec_capacity l.cells;
  each : (i j : ℕ) → i < l.i → j < l.columns → slice_get l.cells.items (i * l.columns + j) ≡ sum_of_products g.A.Arithmetic.plus g.A.Arithmetic.times g.A.Zero.zero (λ k. slice_get l.left (i * l.inner + k)) (λ k. slice_get l.right (k * l.columns + j)) l.inner;
}
