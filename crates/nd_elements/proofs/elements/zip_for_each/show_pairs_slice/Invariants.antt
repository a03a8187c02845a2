use Rattle.nd_elements.proofs.NamesFromOtherCrates.{slice_get}
use Rattle.nd_elements.specs.ElementsAtNumberedPlaces.{in_turn}
use Rattle.nd_elements.specs.elements.ElementMaps.{RanNumbered}
use Rattle.nd_elements.specs.elements.PairMaps.{AnswersPair, pairs_at}
use Rattle.nd_elements.proofs.elements.zip_for_each.show_pairs_slice.Given as goal

abbrev pub invariant-loop-nth : goal.invariant-loop-nth
invariant-loop-nth g l = RanNumbered (AnswersPair g.F.FnMut) (pairs_at slice_get (in_turn l.fn.xs) l.fn.xs slice_get (in_turn l.fn.ys) l.fn.ys) l.fn.f l.nth l.f
