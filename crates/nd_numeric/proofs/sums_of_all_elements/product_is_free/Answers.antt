use Rattle.std.proofs.Common.{◌∙◌, sym}
use Rattle.nd_numeric.proofs.sums_of_all_elements.product_is_free.Goals as goal

pub returns : goal.returns
returns g c = λ free. g.met.A.Reorderable.product_law (sym c.is_reorderable.ensures ∙ free)
