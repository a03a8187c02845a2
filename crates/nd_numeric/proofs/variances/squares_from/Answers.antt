use Rattle.std.proofs.Common.{◌∙◌, ap}
use Rattle.nd_numeric.specs.Variances.{with_square}
use Rattle.nd_numeric.specs.SumsProductsAndMeans.{folded_in_order}
use Rattle.nd_numeric.proofs.variances.squares_from.Goals as goal

pub returns : goal.returns
returns g c =
    let number = g.A.Arithmetic in
    c.fold_in_order.ensures
    ∙ ap (λ first. folded_in_order (with_square number.plus number.minus number.times c.args.mean) first c.args.array.now) c.zero.ensures
