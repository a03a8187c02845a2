use Rattle.std.proofs.Common.{arith}
use Rattle.std.proofs.lemmas.Grind.{common_steps}
use Rattle.nd_linalg.proofs.matrix_product.of_cells.Goals as goal

pub returns-clause-elements : goal.returns-clause-elements
returns-clause-elements g c = grind (arith, common_steps)
