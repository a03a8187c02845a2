use Rattle.nd_shape_and_slice.proofs.NamesFromOtherCrates.{take-replicate}
use Rattle.nd_shape_and_slice.proofs.dynamic_dimension.IxDynDimension.zeros.Goals as goal

pub returns : goal.returns
returns c = take-replicate c.args.count 32 0 c.requires.few
