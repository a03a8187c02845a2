use Rattle.std.proofs.Common.{◌≡◌, ◌%◌, ◌^◌}
use Rattle.nd_array_core.specs.ElementsByCoordinates.{element_of_2}
use Rattle.uses_nd_array_core.specs.MatrixProductsAndBlurs.{row_times_column}
use Rattle.uses_nd_array_core.proofs.products_and_blurs.product_at.Given as goal

abbrev pub invariant-loop-k : goal.invariant-loop-k
invariant-loop-k g l = l.total ≡ row_times_column (element_of_2 l.one) (element_of_2 l.other) l.k l.row l.column % 2 ^ 64
