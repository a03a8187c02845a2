use Rattle.std.proofs.Common.{◌≡◌, ◌%◌, ◌^◌}
use Rattle.nd_array_core.specs.ElementsByCoordinates.{element_of_2}
use Rattle.nd_array_core.specs.SumsCountsAndExtrema.{sum_below, value_or_0}
use Rattle.uses_nd_array_core.proofs.pixel_loops.row_sum.Given as goal

abbrev pub invariant-loop-column : goal.invariant-loop-column
invariant-loop-column g l = l.total ≡ sum_below (λ column. value_or_0 (element_of_2 l.image l.row column)) l.column % 2 ^ 64
