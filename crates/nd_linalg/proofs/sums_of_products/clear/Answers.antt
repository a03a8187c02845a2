use Rattle.std.proofs.Common.{Some, ap, ◌∙◌, arith}
use Rattle.std.proofs.lemmas.List.{length-set}
use Rattle.nd_linalg.proofs.MatrixProductLoops.{one_put}
use Rattle.nd_linalg.proofs.sums_of_products.clear.Goals as goal

pub loop-j-preserved : goal.loop-j-preserved
loop-j-preserved g c =
    let kept = c.loop-j.invariant in
    record {
      count = length-set c.loop-j.sums c.loop-j.j c.zero.result ∙ kept.count;
      zeros = one_put c.loop-j.sums c.loop-j.j c.zero.result (λ j. Some g.A.Zero.zero) (omega (arith, c.loop-j-test.true, kept.count)) (ap Some c.zero.ensures) kept.zeros;
    }
