use Rattle.nd_elements.proofs.NamesFromOtherCrates.{sum}
use Rattle.nd_elements.proofs.elements.zip_mut_with.+zip_in_halves.Given as goal

abbrev pub decreases-zip_in_halves : goal.decreases-zip_in_halves
decreases-zip_in_halves g l = sum (g.D.Dimension.lengths l.layout.now.dim)
