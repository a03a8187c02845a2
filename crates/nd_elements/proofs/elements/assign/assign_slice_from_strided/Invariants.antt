use Rattle.nd_elements.proofs.NamesFromOtherCrates.{pos, slice_get, along}
use Rattle.nd_elements.specs.ElementsAtNumberedPlaces.{elements_at}
use Rattle.nd_elements.specs.elements.AssignedElements.{IsAssignedTo}
use Rattle.nd_elements.proofs.elements.assign.assign_slice_from_strided.Given as goal

abbrev pub invariant-loop-nth : goal.invariant-loop-nth
invariant-loop-nth g l = IsAssignedTo (elements_at g.Z.Data.stored (along l.fn.other_lane) l.fn.others) (λ k. pos k) l.nth (slice_get l.fn.xs) (slice_get l.xs)
