use Rattle.std.proofs.Common.{rules}
use Rattle.std.proofs.lemmas.Result.{IfOk-weaker}
use Rattle.nd_array_core.specs.ArrayMeaning.{meaning_of, element_at}
use Rattle.nd_numeric.specs.Variances.{root_if, variance_in}
use Rattle.nd_numeric.proofs.LaneVariances.{of_lanes}
use Rattle.nd_numeric.proofs.variances.spreads_of.Goals as goal

pub returns-clause-spreads : goal.returns-clause-spreads
returns-clause-spreads g c =
    let number = g.A.Arithmetic in
    let h = root_if g.A.Real.root c.args.is_root in
    IfOk-weaker c.map_axis.result _ _ (λ a alike. of_lanes number.plus number.minus number.times number.over g.A.Zero.zero number.of_count c.args.ddof (meaning_of c.args.array.now) c.args.axis.0 h (element_at a) (alike (λ lane. h (variance_in number.plus number.minus number.times number.over g.A.Zero.zero number.of_count c.args.ddof lane)) (search rules))) c.map_axis.ensures.alike
