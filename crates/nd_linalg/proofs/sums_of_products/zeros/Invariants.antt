use Rattle.std.proofs.Common.{◌≡◌, ◌≤◌, length}
use Rattle.std.specs.Prelude.{vec_len, vec_capacity}
use Rattle.nd_linalg.proofs.sums_of_products.zeros.Given as goal

abbrev pub invariant-loop : goal.invariant-loop
invariant-loop g l = record {
  count : length l.zeros.items ≡ l.counter;
  len : vec_len l.zeros ≡ l.counter;
  room : l.count ≤ vec_capacity l.zeros;
}
