use Rattle.std.proofs.Common.{◌≡◌, ℕ, ◌<◌, ◌≤◌, Some, nat_lt, if◌then◌else◌}
use Rattle.nd_array_core.specs.ArrayMeaning.{shape_of}
use Rattle.nd_array_core.specs.ElementsByCoordinates.{element_of_2}
use Rattle.uses_nd_array_core_numbers.proofs.outer_products_and_triangles.clear_below_diagonal.Given as goal

abbrev pub invariant-loop-row : goal.invariant-loop-row
invariant-loop-row g l = record {
  shape : shape_of l.table ≡ shape_of l.fn.table;
  above : (i j : ℕ) → i < l.row → j < l.columns → element_of_2 l.table i j ≡ (if nat_lt j i then Some 0 else element_of_2 l.fn.table i j);
  below : (i j : ℕ) → l.row ≤ i → element_of_2 l.table i j ≡ element_of_2 l.fn.table i j;
}

abbrev pub invariant-loop-column : goal.invariant-loop-column
invariant-loop-column g l = record {
  shape : shape_of l.table ≡ shape_of l.fn.table;
  above : (i j : ℕ) → i < l.row → j < l.columns → element_of_2 l.table i j ≡ (if nat_lt j i then Some 0 else element_of_2 l.fn.table i j);
  here : (j : ℕ) → element_of_2 l.table l.row j ≡ (if nat_lt j l.column then Some 0 else element_of_2 l.fn.table l.row j);
  below : (i j : ℕ) → l.row < i → element_of_2 l.table i j ≡ element_of_2 l.fn.table i j;
}
