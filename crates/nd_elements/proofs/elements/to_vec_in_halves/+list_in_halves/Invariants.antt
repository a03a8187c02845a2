use Rattle.nd_elements.proofs.NamesFromOtherCrates.{sum}
use Rattle.nd_elements.proofs.elements.to_vec_in_halves.+list_in_halves.Given as goal

abbrev pub decreases-list_in_halves : goal.decreases-list_in_halves
decreases-list_in_halves g l = sum (g.D.Dimension.lengths l.layout.now.dim)
