use Rattle.nd_elements.proofs.NamesFromOtherCrates.{◌≡◌, ◌-◌, ◌≤◌, [], vec_len, vec_capacity, ranked, AreLanesOf}
use Rattle.nd_elements.specs.ElementsAtNumberedPlaces.{elements_at}
use Rattle.nd_elements.specs.elements.ElementMaps.{AnswersElement, AnswersAfter}
use Rattle.nd_elements.proofs.elements.map.answer_places.Given as goal

abbrev pub invariant-loop-lane : goal.invariant-loop-lane
invariant-loop-lane g l =
    AreLanesOf l.fn.places l.lanes
    × AnswersAfter (AnswersElement g.F.FnMut) (elements_at g.S.Data.stored (ranked l.fn.places) l.fn.storage) l.lanes.rank [] l.items.items l.fn.f l.now
    × (vec_len l.items ≡ l.lanes.rank)
    × ((ranked l.fn.places).count ≤ vec_capacity l.items)

abbrev pub decreases-loop-lane : goal.decreases-loop-lane
decreases-loop-lane g l = (ranked l.fn.places).count - l.lanes.rank
