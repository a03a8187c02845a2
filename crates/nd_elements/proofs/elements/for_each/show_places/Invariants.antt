use Rattle.nd_elements.proofs.NamesFromOtherCrates.{◌-◌, ranked, AreLanesOf}
use Rattle.nd_elements.specs.ElementsAtNumberedPlaces.{elements_at}
use Rattle.nd_elements.specs.elements.ElementMaps.{AnswersElement, RanNumbered}
use Rattle.nd_elements.proofs.elements.for_each.show_places.Given as goal

abbrev pub invariant-loop-lane : goal.invariant-loop-lane
invariant-loop-lane g l =
    AreLanesOf l.fn.places l.lanes
    × RanNumbered (AnswersElement g.F.FnMut) (elements_at g.S.Data.stored (ranked l.fn.places) l.fn.storage) l.fn.f l.lanes.rank l.now

abbrev pub decreases-loop-lane : goal.decreases-loop-lane
decreases-loop-lane g l = (ranked l.fn.places).count - l.lanes.rank
