use Rattle.nd_shape_and_slice.proofs.RowMajorIndexList.{IsIndexedFrom}
use Rattle.nd_shape_and_slice.proofs.index_of_row_major_rank.index_of_rank.Given as goal

abbrev pub invariant-loop-axis : goal.invariant-loop-axis
invariant-loop-axis l = IsIndexedFrom l.rank l.axis l.rest l.lengths l.index

abbrev pub decreases-loop-axis : goal.decreases-loop-axis
decreases-loop-axis l = l.axis
