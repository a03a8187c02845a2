use Rattle.std.proofs.Common.{◌≡◌, ℕ, ◌*◌, ◌<◌, length}
use Rattle.std.specs.Prelude.{slice_get}
use Rattle.nd_linalg.specs.DotAndMatrixProducts.{column_sum}
use Rattle.nd_linalg.proofs.sums_of_products.sum_columns.Given as goal

abbrev pub invariant-loop-four : goal.invariant-loop-four
invariant-loop-four g l = record {
  count : length l.sums ≡ length l.fn.sums;
  each : (j : ℕ) → j < length l.fn.sums → slice_get l.sums j ≡ column_sum g.A.Arithmetic.plus g.A.Arithmetic.times g.A.Zero.zero l.left l.from l.right (length l.fn.sums) j (l.four * 4);
}

abbrev pub invariant-loop-k : goal.invariant-loop-k
invariant-loop-k g l = record {
  count : length l.sums ≡ length l.fn.sums;
  each : (j : ℕ) → j < length l.fn.sums → slice_get l.sums j ≡ column_sum g.A.Arithmetic.plus g.A.Arithmetic.times g.A.Zero.zero l.left l.from l.right (length l.fn.sums) j l.k;
}
