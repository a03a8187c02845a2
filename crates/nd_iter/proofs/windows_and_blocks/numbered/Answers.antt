use Rattle.std.proofs.Common.{arith}
use Rattle.nd_array_core.proofs.AxesOfDimensionTypes.{known_axes}
use Rattle.nd_iter.proofs.windows_and_blocks.numbered.Goals as goal

pub overflow_mul-left : goal.overflow_mul-left
overflow_mul-left g c = grind (arith, known_axes)

pub returns : goal.returns
returns g c = grind (arith, known_axes)

pub overflow_mul-top : goal.overflow_mul-top
overflow_mul-top g c = grind (arith, known_axes)
