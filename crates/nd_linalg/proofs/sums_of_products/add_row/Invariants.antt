use Rattle.std.proofs.Common.{◌≡◌, ℕ, ◌+◌, ◌<◌, ◌≤◌, length}
use Rattle.std.specs.Prelude.{Some, slice_get}
use Rattle.nd_array_core.specs.elements.BroadcastPairs.{option_both}
use Rattle.nd_linalg.proofs.sums_of_products.add_row.Given as goal

abbrev pub invariant-loop-j : goal.invariant-loop-j
invariant-loop-j g l = record {
  count : length l.sums ≡ length l.fn.sums;
  done : (j : ℕ) → j < l.j → slice_get l.sums j ≡ option_both g.A.Arithmetic.plus (slice_get l.fn.sums j) (option_both g.A.Arithmetic.times (Some l.x) (slice_get l.cells (l.from + j)));
  left : (j : ℕ) → l.j ≤ j → slice_get l.sums j ≡ slice_get l.fn.sums j;
}
