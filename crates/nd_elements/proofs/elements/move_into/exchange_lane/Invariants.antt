use Rattle.nd_elements.proofs.NamesFromOtherCrates.{◌≡◌, along}
use Rattle.nd_elements.specs.ElementsAtNumberedPlaces.{elements_at}
use Rattle.nd_elements.specs.elements.AssignedElements.{IsAssignedTo}
use Rattle.nd_elements.proofs.elements.move_into.exchange_lane.Given as goal

abbrev pub invariant-loop-nth : goal.invariant-loop-nth
invariant-loop-nth g l =
    let ours = along l.fn.lane in
    let theirs = along l.fn.other_lane in
    IsAssignedTo (elements_at g.Z.Data.stored theirs l.fn.others) ours.place l.nth (g.S.Data.stored l.fn.storage) (g.S.Data.stored l.storage)
    × IsAssignedTo (elements_at g.S.Data.stored ours l.fn.storage) theirs.place l.nth (g.Z.Data.stored l.fn.others) (g.Z.Data.stored l.others)
    × (g.S.DataMut.frame l.storage ≡ g.S.DataMut.frame l.fn.storage)
