use Rattle.nd_elements.proofs.NamesFromOtherCrates.{pos, slice_get}
use Rattle.nd_elements.specs.elements.AssignedElements.{IsAssignedTo}
use Rattle.nd_elements.proofs.elements.assign.assign_slice.Given as goal

abbrev pub invariant-loop-nth : goal.invariant-loop-nth
invariant-loop-nth g l = IsAssignedTo (slice_get l.fn.ys) (λ k. pos k) l.nth (slice_get l.fn.xs) (slice_get l.xs)
