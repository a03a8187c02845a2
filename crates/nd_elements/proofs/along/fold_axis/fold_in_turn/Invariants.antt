use Rattle.nd_elements.proofs.NamesFromOtherCrates.{◌≡◌, ◌-◌, ◌≤◌, length, slice_get, vec_len, vec_capacity}
use Rattle.nd_elements.specs.along.FoldOfLanes.{lanes_at}
use Rattle.nd_elements.specs.along.PlacesOfAxisLanes.{lanes_in}
use Rattle.nd_elements.proofs.along_lemmas.LanesFolding.{LanesFolded}
use Rattle.nd_elements.proofs.along.fold_axis.fold_in_turn.Given as goal

abbrev pub invariant-loop-lane : goal.invariant-loop-lane
invariant-loop-lane g l =
    let at = lanes_in l.fn.lanes in
    (l.turns.lanes ≡ l.fn.lanes)
    × (at.lanes ≤ vec_capacity l.items)
    × (vec_len l.items ≡ l.turns.given)
    × LanesFolded g.F.FnMut at.lanes at.count (lanes_at g.F.FnMut g.S.Data.stored at l.fn.storage) l.fn.init l.fn.f l.turns.given (slice_get l.items.items) l.now
    × (length l.items.items ≡ l.turns.given)

abbrev pub decreases-loop-lane : goal.decreases-loop-lane
decreases-loop-lane g l = (lanes_in l.fn.lanes).lanes - l.turns.given
