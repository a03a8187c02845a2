use Rattle.std.proofs.Common.{◌≡◌, ℕ, ◌<◌, ◌+◌, ◌%◌, nat_eq, if◌then◌else◌, Some}
use Rattle.nd_array_core.specs.ArrayMeaning.{shape_of}
use Rattle.nd_array_core.specs.ElementsByCoordinates.{element_of_2}
use Rattle.uses_nd_array_core.proofs.pixel_loops.checkerboard.Given as goal

abbrev pub invariant-loop-row : goal.invariant-loop-row
invariant-loop-row g l = record {
  shape : shape_of l.image ≡ shape_of l.fn.image;
  above : (i j : ℕ) → i < l.row → j < l.columns → element_of_2 l.image i j ≡ Some (if nat_eq ((i + j) % 2) 0 then l.even else l.odd);
}

abbrev pub invariant-loop-column : goal.invariant-loop-column
invariant-loop-column g l = record {
  shape : shape_of l.image ≡ shape_of l.fn.image;
  above : (i j : ℕ) → i < l.row → j < l.columns → element_of_2 l.image i j ≡ Some (if nat_eq ((i + j) % 2) 0 then l.even else l.odd);
  before : (j : ℕ) → j < l.column → element_of_2 l.image l.row j ≡ Some (if nat_eq ((l.row + j) % 2) 0 then l.even else l.odd);
}
