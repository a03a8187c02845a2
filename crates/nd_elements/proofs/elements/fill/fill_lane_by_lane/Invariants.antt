use Rattle.nd_elements.proofs.NamesFromOtherCrates.{◌≡◌, ◌-◌, ranked, AreLanesOf}
use Rattle.nd_elements.specs.FilledPlaces.{IsFilledTo}
use Rattle.nd_elements.proofs.elements.fill.fill_lane_by_lane.Given as goal

abbrev pub invariant-loop-lane : goal.invariant-loop-lane
invariant-loop-lane g l =
    AreLanesOf l.fn.places l.lanes
    × IsFilledTo (ranked l.fn.places).place l.lanes.rank l.fn.value (g.S.Data.stored l.fn.storage) (g.S.Data.stored l.storage)
    × (g.S.DataMut.frame l.storage ≡ g.S.DataMut.frame l.fn.storage)

abbrev pub decreases-loop-lane : goal.decreases-loop-lane
decreases-loop-lane g l = (ranked l.fn.places).count - l.lanes.rank
