use Rattle.nd_elements.proofs.NamesFromOtherCrates.{arith}
use Rattle.std.proofs.lemmas.Grind.{common_steps}
use Rattle.nd_elements.proofs.elements.to_vec_by_parts_of_rows.exchange_last.Goals as goal

pub returns-clause-turned : goal.returns-clause-turned
returns-clause-turned g c = grind (arith, common_steps)
