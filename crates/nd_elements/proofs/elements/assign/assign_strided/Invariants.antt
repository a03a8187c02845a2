use Rattle.nd_elements.proofs.NamesFromOtherCrates.{◌≡◌, along}
use Rattle.nd_elements.specs.ElementsAtNumberedPlaces.{elements_at}
use Rattle.nd_elements.specs.elements.AssignedElements.{IsAssignedTo}
use Rattle.nd_elements.proofs.elements.assign.assign_strided.Given as goal

abbrev pub invariant-loop-nth : goal.invariant-loop-nth
invariant-loop-nth g l =
    IsAssignedTo (elements_at g.Z.Data.stored (along l.fn.other_lane) l.fn.others) (along l.fn.lane).place l.nth (g.S.Data.stored l.fn.storage) (g.S.Data.stored l.storage)
    × (g.S.DataMut.frame l.storage ≡ g.S.DataMut.frame l.fn.storage)
