use Rattle.nd_array_core.proofs.law_lemmas.ReshapeLaws.{regrouped_back}
use Rattle.nd_array_core.proofs.laws.regrouped_back.Goals as goal

pub returns : goal.returns
returns g c = regrouped_back
