use Rattle.nd_shape_and_slice.proofs.NamesFromOtherCrates.{◌≡◌, ◌*◌, ◌≤◌, drop}
use Rattle.nd_shape_and_slice.specs.ShapesAndIndexOrders.{nonzero_product, size_of}
use Rattle.nd_shape_and_slice.proofs.checked_size.product_of.Given as goal

-- the product so far, and that it stays below the product of the lengths that aren't 0
abbrev pub invariant-loop-length : goal.invariant-loop-length
invariant-loop-length l =
    (l.product * size_of (drop l.length-index l.lengths) ≡ size_of l.lengths)
    × (l.product * nonzero_product (drop l.length-index l.lengths) ≤ nonzero_product l.lengths)
