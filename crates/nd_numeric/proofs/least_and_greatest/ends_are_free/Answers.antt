use Rattle.std.proofs.Common.{◌∙◌, sym}
use Rattle.std.specs.Ordering.{is_gt, is_lt}
use Rattle.nd_numeric.proofs.BestInAnyOrder.{greatest_is_free, least_is_free}
use Rattle.nd_numeric.proofs.FoldOfSelfPairs.{either_way}
use Rattle.nd_numeric.proofs.least_and_greatest.ends_are_free.Goals as goal

pub returns : goal.returns
returns g c =
    let order = g.A.Ordered.order in
    let total = g.met.A.Ordered.order_law in record {
      lesser_of_one = λ x. either_way (is_lt (order x x)) x;
      greater_of_one = λ x. either_way (is_gt (order x x)) x;
      least = λ free. least_is_free order total (g.met.A.Distinct.equal_law (sym c.is_distinct.ensures ∙ free));
      greatest = λ free. greatest_is_free order total (g.met.A.Distinct.equal_law (sym c.is_distinct.ensures ∙ free));
    }
