use Rattle.std.proofs.Common.{◌∙◌, sym, true}
use Rattle.nd_array_core.specs.ConcatenationAndSplit.{row_major_elements}
use Rattle.nd_array_core.specs.ArrayMeaning.{meaning_of}
use Rattle.nd_numeric.proofs.AllElementsPass.{each_element_passes, all_elements_pass, folded}
use Rattle.nd_numeric.proofs.divisors.are_divisors.Goals as goal

pub returns : goal.returns
returns g c =
    let test = g.A.Arithmetic.is_divisor in
    let m = meaning_of c.args.array.now in
    let law = c.elements_by_rank.ensures in
    let tells = c.fold_in_any_order.ensures ∙ folded test true (row_major_elements m) in record {
      each = λ yes. each_element_passes test m law.count law.each c.nothing_outside.ensures (sym tells ∙ yes);
      all = λ each. tells ∙ all_elements_pass test m law.count law.each c.nothing_outside.ensures each;
    }
