use Rattle.std.proofs.Common.{rules, arith, ◌≡◌, ◌*◌, ◌+◌, ◌∙◌, sym, ap, get_or, drop}
use Rattle.std.proofs.Math.Nat.{mul_assoc}
use Rattle.nd_shape_and_slice.specs.ShapesAndIndexOrders.{size_of}
use Rattle.nd_shape_and_slice.proofs.NonzeroProducts.{size_of-drop}
use Rattle.tests_nd_layout.proofs.reshapes.count.Goals as goal

pub loop-length-preserved : goal.loop-length-preserved
loop-length-preserved c =
    let xs = c.args.lengths.now in
    let i = c.loop-length.length-index in
    let p : c.in_ok-product.product ≡ c.loop-length.product * get_or xs i 0 = search rules in
    rw p
    (mul_assoc c.loop-length.product (get_or xs i 0) (size_of (drop (i + 1) xs))
    ∙ ap (λ v. c.loop-length.product * v) (sym (size_of-drop xs i (omega arith)))
    ∙ c.loop-length.invariant)
