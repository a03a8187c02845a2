use Rattle.std.proofs.Common.{◌≡◌, ℕ, nat_lt, if◌then◌else◌}
use Rattle.nd_array_core.specs.ArrayMeaning.{shape_of}
use Rattle.nd_array_core.specs.ElementsByCoordinates.{element_of_2}
use Rattle.uses_nd_array_core.specs.RowsColumnsAndBorders.{exchanged}
use Rattle.uses_nd_array_core.proofs.pixel_loops.swap_rows.Given as goal

abbrev pub invariant-loop-column : goal.invariant-loop-column
invariant-loop-column g l = record {
  shape : shape_of l.image ≡ shape_of l.fn.image;
  elements : (i j : ℕ) → element_of_2 l.image i j ≡ element_of_2 l.fn.image (if nat_lt j l.column then exchanged l.first l.second i else i) j;
}
