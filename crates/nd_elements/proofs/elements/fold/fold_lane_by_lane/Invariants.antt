use Rattle.nd_elements.proofs.NamesFromOtherCrates.{◌-◌, ranked, AreLanesOf}
use Rattle.nd_elements.specs.elements.ElementFolds.{FoldsPlaces}
use Rattle.nd_elements.proofs.elements.fold.fold_lane_by_lane.Given as goal

abbrev pub invariant-loop-lane : goal.invariant-loop-lane
invariant-loop-lane g l =
    AreLanesOf l.fn.places l.lanes
    × FoldsPlaces g.F.FnMut (g.S.Data.stored l.fn.storage) (ranked l.fn.places).place (l.fn.f, l.fn.init) l.lanes.rank (l.f, l.total)

abbrev pub decreases-loop-lane : goal.decreases-loop-lane
decreases-loop-lane g l = (ranked l.fn.places).count - l.lanes.rank
