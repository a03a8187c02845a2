use Rattle.nd_array_core.specs.ArrayMeaning.{shape_of, element_at}
use Rattle.nd_numeric.proofs.LaneMeans.{means_are}
use Rattle.nd_numeric.proofs.sums_of_lanes.means_of.Goals as goal

pub returns-in-Ok-clause-means : goal.returns-in-Ok-clause-means
returns-in-Ok-clause-means g c =
    let number = g.A.Arithmetic in
    means_are number.plus number.over g.A.Zero.zero number.of_count (shape_of c.args.array.now) (element_at c.args.array.now) c.args.axis.0 c.args.count c.of_count.result (element_at c.in-Ok.sums) (element_at c.combine_with_scalar.new.array) c.requires.count c.of_count.ensures c.in-Ok.ensures.sums c.combine_with_scalar.ensures.1
