use Rattle.std.proofs.Common.{◌∙◌, ap}
use Rattle.nd_numeric.specs.SumsProductsAndMeans.{folded_in_order}
use Rattle.nd_numeric.proofs.sums_of_all_elements.product.Goals as goal

pub returns : goal.returns
returns g c = c.fold_all.ensures ∙ ap (λ first. folded_in_order g.A.Arithmetic.times first c.args.array.now) c.one.ensures
