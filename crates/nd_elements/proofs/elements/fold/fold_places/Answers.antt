use Rattle.nd_elements.proofs.NamesFromOtherCrates.{sym, subst}
use Rattle.nd_elements.specs.ElementsAtNumberedPlaces.{Holds}
use Rattle.nd_elements.specs.elements.ElementFolds.{FoldsEach, MayFoldEach}
use Rattle.nd_elements.proofs.elements.fold.fold_places.Goals as goal

pub fold_lane-requires-clause-holds : goal.fold_lane-requires-clause-holds
fold_lane-requires-clause-holds g c = subst (λ at. Holds g.S.Data.stored at c.args.storage.now) (sym c.in-Some.ensures) c.requires.holds

pub fold_lane-requires-clause-callable : goal.fold_lane-requires-clause-callable
fold_lane-requires-clause-callable g c = subst (λ at. MayFoldEach g.F.FnMut g.S.Data.stored at c.args.storage.now (c.args.f, c.args.init)) (sym c.in-Some.ensures) c.requires.callable

pub returns-in-Some : goal.returns-in-Some
returns-in-Some g c = record { ran = subst (λ at. FoldsEach g.F.FnMut g.S.Data.stored at c.args.storage.now (c.args.f, c.args.init) c.fold_lane.result) c.in-Some.ensures c.fold_lane.ensures.ran }
