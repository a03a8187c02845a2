use Rattle.nd_elements.proofs.NamesFromOtherCrates.{sum}
use Rattle.nd_elements.proofs.elements.move_into.+exchange_in_halves.Given as goal

abbrev pub decreases-exchange_in_halves : goal.decreases-exchange_in_halves
decreases-exchange_in_halves g l = sum (g.D.Dimension.lengths l.layout.now.dim)
