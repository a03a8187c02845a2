use Rattle.std.proofs.Common.{◌≡◌, ◌≤◌}
use Rattle.nd_array_core.specs.ArrayMeaning.{meaning_of}
use Rattle.uses_nd_array_core_numbers.specs.RowAndColumnReductions.{count_before}
use Rattle.uses_nd_array_core_numbers.proofs.products_windows_and_counts.count_in_column.Given as goal

abbrev pub invariant-loop-row : goal.invariant-loop-row
invariant-loop-row g l = record {
  counted : l.count ≡ count_before l.value (meaning_of l.table) l.column l.row;
  bound : l.count ≤ l.row;
}
