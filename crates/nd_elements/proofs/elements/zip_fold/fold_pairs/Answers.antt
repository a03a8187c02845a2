use Rattle.nd_elements.proofs.NamesFromOtherCrates.{sym, subst, along, ranked}
use Rattle.nd_elements.specs.ElementsAtNumberedPlaces.{Holds}
use Rattle.nd_elements.specs.elements.PairFolds.{FoldsPairs, MayFoldPairs}
use Rattle.nd_elements.proofs.elements.zip_fold.fold_pairs.Goals as goal

pub fold_pairs_lane-requires-clause-holds : goal.fold_pairs_lane-requires-clause-holds
fold_pairs_lane-requires-clause-holds g c = subst (λ at. Holds g.S.Data.stored at c.args.storage.now) (sym c.in-Some.ensures.0) c.requires.holds

pub fold_pairs_lane-requires-clause-others_hold : goal.fold_pairs_lane-requires-clause-others_hold
fold_pairs_lane-requires-clause-others_hold g c = subst (λ at. Holds g.Z.Data.stored at c.args.others.now) (sym c.in-Some.ensures.1) c.requires.others_hold

pub fold_pairs_lane-requires-clause-callable : goal.fold_pairs_lane-requires-clause-callable
fold_pairs_lane-requires-clause-callable g c =
    subst (λ at. MayFoldPairs g.F.FnMut g.S.Data.stored g.Z.Data.stored at (along c.in-Some.aside) c.args.storage.now c.args.others.now (c.args.f, c.args.init)) (sym c.in-Some.ensures.0)
    (subst (λ theirs. MayFoldPairs g.F.FnMut g.S.Data.stored g.Z.Data.stored (ranked c.args.places) theirs c.args.storage.now c.args.others.now (c.args.f, c.args.init)) (sym c.in-Some.ensures.1) c.requires.callable)

pub returns-in-Some : goal.returns-in-Some
returns-in-Some g c = record {
  ran =
      subst (λ at. FoldsPairs g.F.FnMut g.S.Data.stored g.Z.Data.stored at (ranked c.args.other_places) c.args.storage.now c.args.others.now (c.args.f, c.args.init) c.fold_pairs_lane.result) c.in-Some.ensures.0
      (subst (λ theirs. FoldsPairs g.F.FnMut g.S.Data.stored g.Z.Data.stored (along c.in-Some.lane) theirs c.args.storage.now c.args.others.now (c.args.f, c.args.init) c.fold_pairs_lane.result) c.in-Some.ensures.1 c.fold_pairs_lane.ensures.ran);
}
