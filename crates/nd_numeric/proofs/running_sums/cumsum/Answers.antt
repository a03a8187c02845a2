use Rattle.std.proofs.Common.{◌∙◌, ap, rules}
use Rattle.nd_array_core.specs.ArrayMeaning.{element_at}
use Rattle.nd_array_core.specs.elements.BroadcastPairs.{option_both}
use Rattle.nd_numeric.proofs.running_sums.cumsum.Goals as goal

pub returns-clause-first : goal.returns-clause-first
returns-clause-first g c i at_first = c.accumulate_axis_inplace.ensures.first i at_first ∙ c.in_ok-sums.ensures.elements i

pub returns-clause-sums : goal.returns-clause-sums
returns-clause-sums g c i =
    let plus = g.A.Arithmetic.plus in
    c.accumulate_axis_inplace.ensures.alike plus (search rules) i
    ∙ ap (option_both plus (element_at c.accumulate_axis_inplace.new.self i)) (c.in_ok-sums.ensures.elements _)
