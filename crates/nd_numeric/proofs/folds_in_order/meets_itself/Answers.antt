use Rattle.std.proofs.Common.{refl}
use Rattle.nd_array_core.specs.ArrayMeaning.{shape_of}
use Rattle.nd_numeric.proofs.folds_in_order.meets_itself.Goals as goal

pub returns : goal.returns
returns g c = c.broadcast_to_itself.ensures.some (shape_of c.args.array.now) refl
