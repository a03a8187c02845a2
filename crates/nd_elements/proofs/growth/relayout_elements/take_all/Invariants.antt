use Rattle.nd_elements.proofs.NamesFromOtherCrates.{◌≡◌, ◌+◌, ◌-◌, vec_len, vec_capacity, size_of, place_at_rank, SamePlaces}
use Rattle.nd_elements.specs.growth.ElementsMovedOut.{seated, IsTakenTo}
use Rattle.nd_elements.proofs.growth.relayout_elements.take_all.Given as goal

abbrev pub invariant-loop-lane : goal.invariant-loop-lane
invariant-loop-lane g l =
    (l.lanes.first ≡ l.fn.places.first) × (l.lanes.lengths.now ≡ l.fn.places.lengths.now) × (l.lanes.strides.now ≡ l.fn.places.strides.now)
    × IsTakenTo (place_at_rank l.fn.places.first l.fn.places.lengths.now l.fn.places.strides.now) l.lanes.rank (seated l.fn.seats) (seated l.seats) l.fn.items.items l.items.items
    × (vec_len l.items ≡ vec_len l.fn.items + l.lanes.rank)
    × (vec_capacity l.items ≡ vec_capacity l.fn.items)
    × SamePlaces l.fn.seats l.seats

abbrev pub decreases-loop-lane : goal.decreases-loop-lane
decreases-loop-lane g l = size_of l.fn.places.lengths.now - l.lanes.rank
