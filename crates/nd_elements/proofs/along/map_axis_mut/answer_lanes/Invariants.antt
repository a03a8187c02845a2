use Rattle.nd_elements.proofs.NamesFromOtherCrates.{◌≡◌, ◌-◌, ◌≤◌, vec_len, vec_capacity}
use Rattle.nd_elements.specs.ElementBorrowEnds.{KeepsPlaces}
use Rattle.nd_elements.specs.along.PlacesOfAxisLanes.{lanes_in}
use Rattle.nd_elements.specs.along.LanesWritten.{AreHandedOut}
use Rattle.nd_elements.proofs.along.map_axis_mut.answer_lanes.Given as goal

abbrev pub invariant-loop-lane : goal.invariant-loop-lane
invariant-loop-lane g l =
    let at = lanes_in l.fn.lanes in
    (l.turns.lanes ≡ l.fn.lanes)
    × (at.lanes ≤ vec_capacity l.items)
    × (vec_len l.items ≡ l.turns.given)
    × AreHandedOut g.F.FnMut at.place at.lanes at.count l.turns.given (g.S.Data.stored l.fn.storage) (g.S.Data.stored l.storage) l.fn.f (l.now, l.items.items)
    × KeepsPlaces (g.S.Data.stored l.fn.storage) (g.S.Data.stored l.storage)
    × (g.S.DataMut.frame l.storage ≡ g.S.DataMut.frame l.fn.storage)

abbrev pub decreases-loop-lane : goal.decreases-loop-lane
decreases-loop-lane g l = (lanes_in l.fn.lanes).lanes - l.turns.given
