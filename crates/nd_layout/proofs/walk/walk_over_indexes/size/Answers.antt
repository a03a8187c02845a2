use Rattle.nd_layout.proofs.NamesFromOtherCrates.{arith}
use Rattle.nd_layout.proofs.SizesOfChangedAxes.{size-le-product}
use Rattle.nd_layout.proofs.walk.walk_over_indexes.size.Goals as goal

pub count_of-requires-clause-fits : goal.count_of-requires-clause-fits
count_of-requires-clause-fits c = omega (arith, size-le-product c.args.lengths.now, c.requires)
