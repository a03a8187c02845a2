use Rattle.nd_shape_and_slice.proofs.NamesFromOtherCrates.{◌≡◌, ◌*◌, ◌<◌, drop, cond}
use Rattle.nd_shape_and_slice.specs.ShapesAndIndexOrders.{nonzero_product, size_of}
use Rattle.nd_shape_and_slice.proofs.checked_size.size_of_shape_checked.Given as goal

-- the product so far times that of the lengths left is the whole product
abbrev pub invariant-loop-length : goal.invariant-loop-length
invariant-loop-length l =
    (l.product < 9223372036854775808)
    × (l.product * nonzero_product (drop l.length-index l.lengths) ≡ nonzero_product l.lengths)
    × (size_of l.lengths ≡ cond l.has_zero 0 (l.product * size_of (drop l.length-index l.lengths)))
