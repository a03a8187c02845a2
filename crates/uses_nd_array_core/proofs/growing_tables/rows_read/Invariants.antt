use Rattle.std.proofs.Common.{◌≡◌, ◌<◌, ℕ, slice_index}
use Rattle.nd_array_core.specs.ElementsByCoordinates.{element_of_2, HasRowsAndColumns}
use Rattle.uses_nd_array_core.proofs.growing_tables.rows_read.Given as goal

abbrev pub invariant-loop-row : goal.invariant-loop-row
invariant-loop-row g l = record {
  shape : HasRowsAndColumns l.table l.row l.columns;
  read : (i j : ℕ) → i < l.row → j < l.columns → element_of_2 l.table i j ≡ element_of_2 l.source (slice_index l.numbers i) j;
}
