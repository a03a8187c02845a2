use Rattle.nd_elements.proofs.NamesFromOtherCrates.{◌≡◌, length, pointwise}
use Rattle.nd_elements.proofs.elements.eq.equal_slice.Given as goal

abbrev pub invariant-loop-ours : goal.invariant-loop-ours
invariant-loop-ours g l =
    (length l.theirs ≡ length l.ours)
    × (pointwise g.A.PartialEq.eq l.fn.xs l.fn.ys ≡ pointwise g.A.PartialEq.eq l.ours l.theirs)

abbrev pub decreases-loop-ours : goal.decreases-loop-ours
decreases-loop-ours g l = length l.ours
