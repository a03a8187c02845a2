use Rattle.nd_elements.proofs.NamesFromOtherCrates.{along}
use Rattle.nd_elements.specs.elements.PairFolds.{FoldsPairsTo}
use Rattle.nd_elements.specs.elements.PairMaps.{pairs_at}
use Rattle.nd_elements.proofs.elements.zip_fold.fold_pairs_strided.Given as goal

abbrev pub invariant-loop-nth : goal.invariant-loop-nth
invariant-loop-nth g l = FoldsPairsTo g.F.FnMut (pairs_at g.S.Data.stored (along l.fn.lane) l.fn.storage g.Z.Data.stored (along l.fn.other_lane) l.fn.others) (l.fn.f, l.fn.init) l.nth (l.f, l.total)
