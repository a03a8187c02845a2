use Rattle.nd_elements.proofs.NamesFromOtherCrates.{◌≡◌, ◌-◌, ranked}
use Rattle.nd_elements.specs.ElementsAtNumberedPlaces.{elements_at}
use Rattle.nd_elements.specs.elements.AssignedElements.{IsAssignedTo}
use Rattle.nd_elements.proofs.elements_lemmas.LanesOfBoth.{AreLanesOfBoth}
use Rattle.nd_elements.proofs.elements.move_into.exchange_lane_by_lane.Given as goal

abbrev pub invariant-loop-lane : goal.invariant-loop-lane
invariant-loop-lane g l =
    let ours = ranked l.fn.places in
    let theirs = ranked l.fn.other_places in
    AreLanesOfBoth l.fn.places l.fn.other_places l.ours l.theirs
    × IsAssignedTo (elements_at g.Z.Data.stored theirs l.fn.others) ours.place l.ours.rank (g.S.Data.stored l.fn.storage) (g.S.Data.stored l.storage)
    × IsAssignedTo (elements_at g.S.Data.stored ours l.fn.storage) theirs.place l.ours.rank (g.Z.Data.stored l.fn.others) (g.Z.Data.stored l.others)
    × (g.S.DataMut.frame l.storage ≡ g.S.DataMut.frame l.fn.storage)

abbrev pub decreases-loop-lane : goal.decreases-loop-lane
decreases-loop-lane g l = (ranked l.fn.places).count - l.ours.rank
