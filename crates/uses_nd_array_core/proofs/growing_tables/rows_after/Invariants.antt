use Rattle.std.proofs.Common.{◌≡◌, ◌+◌, ◌<◌, ℕ, Some, slice_index}
use Rattle.std.specs.Prelude.{slice_get}
use Rattle.nd_array_core.specs.ArrayMeaning.{shape_of}
use Rattle.nd_array_core.specs.ElementsByCoordinates.{element_of_1, element_of_2, HasRowsAndColumns}
use Rattle.uses_nd_array_core.proofs.growing_tables.rows_after.Given as goal

abbrev pub invariant-loop-row : goal.invariant-loop-row
invariant-loop-row g l = record {
  shape : HasRowsAndColumns l.table (slice_index (shape_of l.fn.table) 0 + l.row-index) (slice_index (shape_of l.fn.table) 1);
  before : (i j : ℕ) → i < slice_index (shape_of l.fn.table) 0 → j < slice_index (shape_of l.fn.table) 1 → element_of_2 l.table i j ≡ element_of_2 l.fn.table i j;
  after : (k j : ℕ) (row : _) → k < l.row-index → slice_get l.rows k ≡ Some row → j < slice_index (shape_of l.fn.table) 1 → element_of_2 l.table (slice_index (shape_of l.fn.table) 0 + k) j ≡ element_of_1 row j;
}
