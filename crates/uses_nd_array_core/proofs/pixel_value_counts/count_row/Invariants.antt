use Rattle.std.proofs.Common.{◌≡◌, ◌<◌, ◌≤◌, ◌+◌, ℕ}
use Rattle.std.specs.Prelude.{slice_index}
use Rattle.nd_array_core.specs.ElementsByCoordinates.{element_of_2}
use Rattle.uses_nd_array_core.specs.CellCounts.{count_in_row}
use Rattle.uses_nd_array_core.proofs.pixel_value_counts.count_row.Given as goal

abbrev pub invariant-loop-column : goal.invariant-loop-column
invariant-loop-column g l = record {
  counted : (v : ℕ) → v < 256 → slice_index l.counts v ≡ slice_index l.fn.counts v + count_in_row (element_of_2 l.image l.row) v l.column;
  few : (v : ℕ) → v < 256 → slice_index l.counts v ≤ slice_index l.fn.counts v + l.column;
}
