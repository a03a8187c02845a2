use Rattle.nd_elements.proofs.NamesFromOtherCrates.{◌≡◌, ◌≤◌, length, take, slowest_first}
use Rattle.nd_elements.proofs.base.from_shape_fn.put_outer.Given as goal

abbrev pub invariant-loop-nth : goal.invariant-loop-nth
invariant-loop-nth g l =
    (length (g.D.Dimension.lengths l.index) ≡ length (g.D.Dimension.lengths l.fn.index))
    × (l.nth ≤ length l.fn.outer)
    × (take l.nth (slowest_first l.fn.order (g.D.Dimension.lengths l.index)) ≡ take l.nth l.fn.outer)
