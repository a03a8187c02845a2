use Rattle.nd_layout.proofs.NamesFromOtherCrates.{arith}
use Rattle.nd_layout.proofs.SizesOfChangedAxes.{length-le-product}
use Rattle.nd_layout.proofs.layout.merge_axes.can_merge.Goals as goal

pub continues-requires : goal.continues-requires
continues-requires c = omega (arith, c.requires.checked, length-le-product c.args.lengths.now c.args.into c.requires.into)
