use Rattle.nd_array_core.proofs.NamesFromOtherCrates.{◌≡◌, ◌-◌, ◌≤◌, vec_len, vec_capacity, size_of, indexed_shape, RowMajor, lanes_in, AnswersAt, IsAnsweredTo}
use Rattle.nd_array_core.specs.ArrayMeaning.{meaning_of, shape_of}
use Rattle.nd_array_core.specs.along.AxisMaps.{lanes_of, AnswersLane}
use Rattle.nd_array_core.proofs.along.map_axis.map_lanes.Given as goal

abbrev pub invariant-loop-lane : goal.invariant-loop-lane
invariant-loop-lane g l =
    let outer = indexed_shape (shape_of l.fn.array) l.fn.axis.0 in
    let rank = l.turns.given in
    (l.turns.lanes ≡ l.fn.lanes)
    × (size_of outer ≤ vec_capacity l.items)
    × (vec_len l.items ≡ rank)
    × IsAnsweredTo (AnswersAt (AnswersLane g.F.FnMut) (lanes_of (meaning_of l.fn.array) l.fn.axis.0).at) (outer, RowMajor) l.fn.f l.items.items rank l.f

abbrev pub decreases-loop-lane : goal.decreases-loop-lane
decreases-loop-lane g l = (lanes_in l.fn.lanes).lanes - l.turns.given
