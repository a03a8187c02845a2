use Rattle.std.proofs.Common.{◌≡◌, ℕ, ◌<◌, length}
use Rattle.std.specs.Prelude.{Some, slice_get}
use Rattle.nd_linalg.proofs.sums_of_products.clear.Given as goal

abbrev pub invariant-loop-j : goal.invariant-loop-j
invariant-loop-j g l = record {
  count : length l.sums ≡ length l.fn.sums;
  zeros : (j : ℕ) → j < l.j → slice_get l.sums j ≡ Some g.A.Zero.zero;
}
