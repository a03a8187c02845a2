use Rattle.nd_elements.proofs.NamesFromOtherCrates.{along}
use Rattle.nd_elements.specs.elements.ElementMaps.{RanNumbered}
use Rattle.nd_elements.specs.elements.PairMaps.{AnswersPair, pairs_at}
use Rattle.nd_elements.proofs.elements.zip_for_each.show_pairs_strided.Given as goal

abbrev pub invariant-loop-nth : goal.invariant-loop-nth
invariant-loop-nth g l = RanNumbered (AnswersPair g.F.FnMut) (pairs_at g.S.Data.stored (along l.fn.lane) l.fn.storage g.Z.Data.stored (along l.fn.other_lane) l.fn.others) l.fn.f l.nth l.f
