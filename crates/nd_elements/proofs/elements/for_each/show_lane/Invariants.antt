use Rattle.nd_elements.proofs.NamesFromOtherCrates.{along}
use Rattle.nd_elements.specs.ElementsAtNumberedPlaces.{elements_at}
use Rattle.nd_elements.specs.elements.ElementMaps.{AnswersElement, RanNumbered}
use Rattle.nd_elements.proofs.elements.for_each.show_lane.Given as goal

abbrev pub invariant-loop-nth : goal.invariant-loop-nth
invariant-loop-nth g l = RanNumbered (AnswersElement g.F.FnMut) (elements_at g.S.Data.stored (along l.fn.lane) l.fn.storage) l.fn.f l.nth l.f
