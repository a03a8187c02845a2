use Rattle.std.proofs.Common.{◌≡◌}
use Rattle.nd_array_core.specs.ArrayMeaning.{meaning_of}
use Rattle.uses_nd_array_core_numbers.specs.RowAndColumnReductions.{products_before}
use Rattle.uses_nd_array_core_numbers.proofs.products_windows_and_counts.product_of_row.Given as goal

abbrev pub invariant-loop-k : goal.invariant-loop-k
invariant-loop-k g l = l.total ≡ products_before (meaning_of l.vector) (meaning_of l.matrix) l.row l.k
