use Rattle.std.proofs.Common.{◌≡◌, ◌≢◌, ◌<◌, ◌≤◌, ◌/◌, ◌*◌, ℕ, Some}
use Rattle.nd_array_core.specs.ArrayMeaning.{shape_of}
use Rattle.nd_array_core.specs.ElementsByCoordinates.{element_of_2}
use Rattle.uses_nd_array_core.proofs.filled_blocks.fill_diagonal_blocks.Given as goal

abbrev pub invariant-loop-row : goal.invariant-loop-row
invariant-loop-row g l = record {
  shape : shape_of l.matrix ≡ shape_of l.fn.matrix;
  above : (i j : ℕ) → i < l.row → j < l.columns → i / l.size ≡ j / l.size → element_of_2 l.matrix i j ≡ Some l.value;
  outside : (i j : ℕ) → i / l.size ≢ j / l.size → element_of_2 l.matrix i j ≡ element_of_2 l.fn.matrix i j;
}

abbrev pub invariant-loop-column : goal.invariant-loop-column
invariant-loop-column g l = record {
  shape : shape_of l.matrix ≡ shape_of l.fn.matrix;
  above : (i j : ℕ) → i < l.row → j < l.columns → i / l.size ≡ j / l.size → element_of_2 l.matrix i j ≡ Some l.value;
  before : (j : ℕ) → l.row / l.size * l.size ≤ j → j < l.column → element_of_2 l.matrix l.row j ≡ Some l.value;
  outside : (i j : ℕ) → i / l.size ≢ j / l.size → element_of_2 l.matrix i j ≡ element_of_2 l.fn.matrix i j;
}
