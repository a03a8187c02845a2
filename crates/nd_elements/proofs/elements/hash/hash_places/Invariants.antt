use Rattle.nd_elements.proofs.NamesFromOtherCrates.{◌≡◌, ◌-◌, fold, flat_map, ranked, AreLanesOf}
use Rattle.nd_elements.specs.CollectedElements.{collected}
use Rattle.nd_elements.specs.ElementsAtNumberedPlaces.{elements_at}
use Rattle.nd_elements.proofs.elements.hash.hash_places.Given as goal

abbrev pub invariant-loop-lane : goal.invariant-loop-lane
invariant-loop-lane g l =
    AreLanesOf l.fn.places l.lanes
    × (l.state ≡ fold g.H.Hasher.write l.fn.state (flat_map g.S.Elem.Hash.hash_input (collected (elements_at g.S.Data.stored (ranked l.fn.places) l.fn.storage) l.lanes.rank)))

abbrev pub decreases-loop-lane : goal.decreases-loop-lane
decreases-loop-lane g l = (ranked l.fn.places).count - l.lanes.rank
