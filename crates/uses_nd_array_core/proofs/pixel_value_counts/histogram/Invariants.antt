use Rattle.std.proofs.Common.{◌≡◌, ◌<◌, ◌≤◌, ◌*◌, ℕ}
use Rattle.std.specs.Prelude.{length, slice_index}
use Rattle.nd_array_core.specs.ArrayMeaning.{shape_of}
use Rattle.nd_array_core.specs.ElementsByCoordinates.{element_of_2}
use Rattle.uses_nd_array_core.specs.CellCounts.{count_in_rows}
use Rattle.uses_nd_array_core.proofs.pixel_value_counts.histogram.Given as goal

abbrev pub invariant-loop-row : goal.invariant-loop-row
invariant-loop-row g l = record {
  long : length l.counts ≡ 256;
  counted : (v : ℕ) → v < 256 → slice_index l.counts v ≡ count_in_rows (element_of_2 l.image) v (slice_index (shape_of l.image) 1) l.row;
  few : (v : ℕ) → v < 256 → slice_index l.counts v ≤ l.row * slice_index (shape_of l.image) 1;
}
