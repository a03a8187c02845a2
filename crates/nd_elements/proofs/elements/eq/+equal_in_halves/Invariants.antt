use Rattle.nd_elements.proofs.NamesFromOtherCrates.{sum}
use Rattle.nd_elements.proofs.elements.eq.+equal_in_halves.Given as goal

abbrev pub decreases-equal_in_halves : goal.decreases-equal_in_halves
decreases-equal_in_halves g l = sum (g.D.Dimension.lengths l.ours.now.dim)
