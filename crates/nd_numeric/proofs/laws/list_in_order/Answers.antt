use Rattle.std.proofs.Common.{slice_index}
use Rattle.nd_array_core.specs.ArrayMeaning.{meaning_of, shape_of}
use Rattle.nd_array_core.proofs.AxesOfDimensionTypes.{one_length}
use Rattle.nd_numeric.proofs.OneAxisInOrder.{in_order}
use Rattle.nd_numeric.proofs.laws.list_in_order.Goals as goal

pub returns : goal.returns
returns g c = λ at same. in_order (meaning_of c.args.list.now) (slice_index (shape_of c.args.list.now) 0) at (one_length c.args.list.now) same
