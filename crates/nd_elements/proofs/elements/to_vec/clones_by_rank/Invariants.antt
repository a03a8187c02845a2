use Rattle.nd_elements.proofs.NamesFromOtherCrates.{◌≡◌, ◌+◌, ◌-◌, ◌++◌, vec_len, vec_capacity, ranked, AreLanesOf}
use Rattle.nd_elements.specs.ElementsAtNumberedPlaces.{elements_at}
use Rattle.nd_elements.specs.CollectedElements.{collected}
use Rattle.nd_elements.proofs.elements.to_vec.clones_by_rank.Given as goal

abbrev pub invariant-loop-lane : goal.invariant-loop-lane
invariant-loop-lane g l =
    AreLanesOf l.fn.places l.lanes
    × (l.items.items ≡ l.fn.items.items ++ collected (elements_at g.S.Data.stored (ranked l.fn.places) l.fn.storage) l.lanes.rank)
    × (vec_len l.items ≡ vec_len l.fn.items + l.lanes.rank)
    × (vec_capacity l.items ≡ vec_capacity l.fn.items)

abbrev pub decreases-loop-lane : goal.decreases-loop-lane
decreases-loop-lane g l = (ranked l.fn.places).count - l.lanes.rank
