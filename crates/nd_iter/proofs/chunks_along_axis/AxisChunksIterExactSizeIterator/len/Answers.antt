use Rattle.std.proofs.Common.{arith}
use Rattle.nd_iter.proofs.ListEndsTaken.{length_given}
use Rattle.nd_iter.proofs.chunks_along_axis.AxisChunksIterExactSizeIterator.len.Goals as goal

pub returns-clause-value : goal.returns-clause-value
returns-clause-value g c = grind (arith, length_given)
