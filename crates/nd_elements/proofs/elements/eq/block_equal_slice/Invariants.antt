use Rattle.nd_elements.proofs.NamesFromOtherCrates.{◌≡◌, take, pointwise}
use Rattle.nd_elements.proofs.elements.eq.block_equal_slice.Given as goal

abbrev pub invariant-loop-nth : goal.invariant-loop-nth
invariant-loop-nth g l = l.same ≡ pointwise g.A.PartialEq.eq (take l.nth l.fn.xs) (take l.nth l.fn.ys)
