use Rattle.nd_elements.proofs.NamesFromOtherCrates.{along}
use Rattle.nd_elements.specs.elements.ElementFolds.{FoldsPlaces}
use Rattle.nd_elements.proofs.elements.fold.fold_strided.Given as goal

abbrev pub invariant-loop-nth : goal.invariant-loop-nth
invariant-loop-nth g l = FoldsPlaces g.F.FnMut (g.S.Data.stored l.fn.storage) (along l.fn.lane).place (l.fn.f, l.fn.init) l.nth (l.f, l.total)
