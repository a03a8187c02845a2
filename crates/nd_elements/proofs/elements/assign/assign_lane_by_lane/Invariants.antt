use Rattle.nd_elements.proofs.NamesFromOtherCrates.{◌≡◌, ◌-◌, ranked}
use Rattle.nd_elements.specs.ElementsAtNumberedPlaces.{elements_at}
use Rattle.nd_elements.specs.elements.AssignedElements.{IsAssignedTo}
use Rattle.nd_elements.proofs.elements_lemmas.LanesOfBoth.{AreLanesOfBoth}
use Rattle.nd_elements.proofs.elements.assign.assign_lane_by_lane.Given as goal

abbrev pub invariant-loop-lane : goal.invariant-loop-lane
invariant-loop-lane g l =
    AreLanesOfBoth l.fn.places l.fn.other_places l.ours l.theirs
    × IsAssignedTo (elements_at g.Z.Data.stored (ranked l.fn.other_places) l.fn.others) (ranked l.fn.places).place l.ours.rank (g.S.Data.stored l.fn.storage) (g.S.Data.stored l.storage)
    × (g.S.DataMut.frame l.storage ≡ g.S.DataMut.frame l.fn.storage)

abbrev pub decreases-loop-lane : goal.decreases-loop-lane
decreases-loop-lane g l = (ranked l.fn.places).count - l.ours.rank
