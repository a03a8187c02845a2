use Rattle.std.proofs.Common.{◌≡◌, ◌*◌, drop}
use Rattle.nd_shape_and_slice.specs.ShapesAndIndexOrders.{size_of}
use Rattle.tests_nd_layout.proofs.reshapes.count.Given as goal

abbrev pub invariant-loop-length : goal.invariant-loop-length
invariant-loop-length l = l.product * size_of (drop l.length-index l.lengths) ≡ size_of l.lengths
