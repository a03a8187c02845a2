use Rattle.std.proofs.Common.{◌≡◌, ◌<◌, ◌+◌, ℕ, slice_index}
use Rattle.nd_array_core.specs.ArrayMeaning.{shape_of}
use Rattle.nd_array_core.specs.ElementsByCoordinates.{element_of_2, HasRowsAndColumns}
use Rattle.uses_nd_array_core.proofs.growing_tables.columns_after.Given as goal

abbrev pub invariant-loop-k : goal.invariant-loop-k
invariant-loop-k g l = record {
  shape : HasRowsAndColumns l.table (slice_index (shape_of l.fn.table) 0) (slice_index (shape_of l.fn.table) 1 + l.k);
  before : (i j : ℕ) → i < slice_index (shape_of l.fn.table) 0 → j < slice_index (shape_of l.fn.table) 1 → element_of_2 l.table i j ≡ element_of_2 l.fn.table i j;
  after : (i k : ℕ) → i < slice_index (shape_of l.fn.table) 0 → k < l.k → element_of_2 l.table i (slice_index (shape_of l.fn.table) 1 + k) ≡ element_of_2 l.source i (slice_index l.numbers k);
}
