use Rattle.std.proofs.Common.{◌≡◌, ℕ, ◌<◌, ◌+◌, ◌*◌, ◌-◌, length}
use Rattle.std.specs.Prelude.{slice_get}
use Rattle.nd_array_core.specs.ElementsByCoordinates.{element_of_2}
use Rattle.uses_nd_array_core.proofs.matrices_of_rows.push_rows_reversed.Given as goal

abbrev pub invariant-loop-row : goal.invariant-loop-row
invariant-loop-row g l = record {
  count : length l.cells.items ≡ l.row * l.columns;
  above : (i j : ℕ) → i < l.row → j < l.columns → slice_get l.cells.items (i * l.columns + j) ≡ element_of_2 l.matrix (l.rows - 1 - i) j;
}

abbrev pub invariant-loop-column : goal.invariant-loop-column
invariant-loop-column g l = record {
  count : length l.cells.items ≡ l.row * l.columns + l.column;
  above : (i j : ℕ) → i < l.row → j < l.columns → slice_get l.cells.items (i * l.columns + j) ≡ element_of_2 l.matrix (l.rows - 1 - i) j;
  before : (j : ℕ) → j < l.column → slice_get l.cells.items (l.row * l.columns + j) ≡ element_of_2 l.matrix (l.rows - 1 - l.row) j;
}
