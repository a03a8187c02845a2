use Rattle.nd_elements.proofs.NamesFromOtherCrates.{ap, sym}
use Rattle.nd_region.specs.SharedRegion.{shared_stored}
use Rattle.nd_elements.proofs.storage.ViewRepr.of_one_slice.Goals as goal

pub returns-in-Whole : goal.returns-in-Whole
returns-in-Whole g c place = ap (λ r. shared_stored r place) (sym c.in-Whole.is)
