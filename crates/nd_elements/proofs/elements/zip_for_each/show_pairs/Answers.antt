use Rattle.nd_elements.proofs.NamesFromOtherCrates.{sym, subst, along, ranked}
use Rattle.nd_elements.specs.ElementsAtNumberedPlaces.{Holds}
use Rattle.nd_elements.specs.elements.PairMaps.{MayShowPairs, ShowsPairs}
use Rattle.nd_elements.proofs.elements.zip_for_each.show_pairs.Goals as goal

pub show_pairs_lane-requires-clause-holds : goal.show_pairs_lane-requires-clause-holds
show_pairs_lane-requires-clause-holds g c = subst (λ at. Holds g.S.Data.stored at c.args.storage.now) (sym c.in-Some.ensures.0) c.requires.holds

pub show_pairs_lane-requires-clause-others_hold : goal.show_pairs_lane-requires-clause-others_hold
show_pairs_lane-requires-clause-others_hold g c = subst (λ at. Holds g.Z.Data.stored at c.args.others.now) (sym c.in-Some.ensures.1) c.requires.others_hold

pub show_pairs_lane-requires-clause-callable : goal.show_pairs_lane-requires-clause-callable
show_pairs_lane-requires-clause-callable g c =
    subst (λ at. MayShowPairs g.F.FnMut g.S.Data.stored g.Z.Data.stored at (along c.in-Some.aside) c.args.storage.now c.args.others.now c.args.f) (sym c.in-Some.ensures.0)
    (subst (λ theirs. MayShowPairs g.F.FnMut g.S.Data.stored g.Z.Data.stored (ranked c.args.places) theirs c.args.storage.now c.args.others.now c.args.f) (sym c.in-Some.ensures.1) c.requires.callable)

pub returns-in-Some : goal.returns-in-Some
returns-in-Some g c = record {
  ran =
      subst (λ at. ShowsPairs g.F.FnMut g.S.Data.stored g.Z.Data.stored at (ranked c.args.other_places) c.args.storage.now c.args.others.now c.args.f c.show_pairs_lane.result) c.in-Some.ensures.0
      (subst (λ theirs. ShowsPairs g.F.FnMut g.S.Data.stored g.Z.Data.stored (along c.in-Some.lane) theirs c.args.storage.now c.args.others.now c.args.f c.show_pairs_lane.result) c.in-Some.ensures.1 c.show_pairs_lane.ensures.ran);
}
