use Rattle.std.proofs.Common.{◌≡◌, ℕ, ◌<◌, length}
use Rattle.std.specs.Prelude.{slice_get, Some}
use Rattle.std.specs.Option.{option_and_then}
use Rattle.nd_array_core.specs.ElementsByCoordinates.{element_of_2, HasRowsAndColumns}
use Rattle.uses_nd_array_core.proofs.tables_of_rows.table_of_rows.Given as goal

abbrev pub invariant-loop-nth : goal.invariant-loop-nth
invariant-loop-nth g l = record {
  shape : HasRowsAndColumns l.table l.nth l.columns;
  cells : (i j : ℕ) → i < l.nth → j < l.columns → element_of_2 l.table i j ≡ option_and_then (λ list. slice_get list.now j) (slice_get l.lists i);
  wide : (i : ℕ) (list : _) → i < l.nth → slice_get l.lists i ≡ Some list → length list.now ≡ l.columns;
}
