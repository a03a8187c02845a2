use Rattle.nd_elements.proofs.NamesFromOtherCrates.{sum}
use Rattle.nd_elements.proofs.elements.assign.+assign_in_halves.Given as goal

abbrev pub decreases-assign_in_halves : goal.decreases-assign_in_halves
decreases-assign_in_halves g l = sum (g.D.Dimension.lengths l.layout.now.dim)
