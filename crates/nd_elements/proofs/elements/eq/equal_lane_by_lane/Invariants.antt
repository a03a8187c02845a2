use Rattle.nd_elements.proofs.NamesFromOtherCrates.{◌≡◌, ◌-◌, true, pointwise, ranked}
use Rattle.nd_elements.specs.CollectedElements.{collected}
use Rattle.nd_elements.specs.ElementsAtNumberedPlaces.{elements_at}
use Rattle.nd_elements.proofs.elements_lemmas.LanesOfBoth.{AreLanesOfBoth}
use Rattle.nd_elements.proofs.elements.eq.equal_lane_by_lane.Given as goal

abbrev pub invariant-loop-lane : goal.invariant-loop-lane
invariant-loop-lane g l =
    AreLanesOfBoth l.fn.ours l.fn.theirs l.lanes l.others
    × (pointwise g.S.Elem.PartialEq.eq
    (collected (elements_at g.S.Data.stored (ranked l.fn.ours) l.fn.a) l.lanes.rank)
    (collected (elements_at g.S.Data.stored (ranked l.fn.theirs) l.fn.b) l.lanes.rank) ≡ true)

abbrev pub decreases-loop-lane : goal.decreases-loop-lane
decreases-loop-lane g l = (ranked l.fn.ours).count - l.lanes.rank
