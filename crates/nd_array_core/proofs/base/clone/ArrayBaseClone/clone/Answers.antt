use Rattle.nd_array_core.proofs.NamesFromOtherCrates.{refl}
use Rattle.nd_array_core.proofs.lending.ArrayAfterElementWrite.{same_array}
use Rattle.nd_array_core.proofs.base.clone.ArrayBaseClone.clone.Goals as goal

pub returns-in-Ok : goal.returns-in-Ok
returns-in-Ok g c = record { cases = same_array _ _ refl c.in-Ok.ensures.cases }
