use Rattle.nd_elements.proofs.NamesFromOtherCrates.{◌≡◌, ◌-◌}
use Rattle.nd_elements.specs.along.PlacesOfAxisLanes.{lanes_in}
use Rattle.nd_elements.specs.along.RemovedIndex.{rotated, AreMovedBy}
use Rattle.nd_elements.proofs.along.remove_index.rotate_lanes.Given as goal

abbrev pub invariant-loop-lane : goal.invariant-loop-lane
invariant-loop-lane g l =
    let at = lanes_in l.fn.lanes in
    (l.turns.lanes ≡ l.fn.lanes)
    × AreMovedBy (g.S.Data.stored l.fn.storage) (g.S.Data.stored l.storage) at.place l.turns.given at.count (rotated l.fn.from at.count)
    × (g.S.DataMut.frame l.storage ≡ g.S.DataMut.frame l.fn.storage)

abbrev pub decreases-loop-lane : goal.decreases-loop-lane
decreases-loop-lane g l = (lanes_in l.fn.lanes).lanes - l.turns.given
