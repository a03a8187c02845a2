use Rattle.std.proofs.Common.{◌≡◌, ℕ, ◌+◌, ◌<◌, length}
use Rattle.std.specs.Prelude.{slice_get, vec_len, vec_capacity}
use Rattle.nd_linalg.proofs.sums_of_products.push_row.Given as goal

abbrev pub invariant-loop-j : goal.invariant-loop-j
invariant-loop-j g l = record {
  count : length l.cells.items ≡ length l.fn.cells.items + l.j;
  len : vec_len l.cells ≡ vec_len l.fn.cells + l.j;
  room : vec_capacity l.cells ≡ vec_capacity l.fn.cells;
  before : (p : ℕ) → p < length l.fn.cells.items → slice_get l.cells.items p ≡ slice_get l.fn.cells.items p;
  row : (j : ℕ) → j < l.j → slice_get l.cells.items (length l.fn.cells.items + j) ≡ slice_get l.row j;
}
