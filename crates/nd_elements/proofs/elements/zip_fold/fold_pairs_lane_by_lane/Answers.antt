use Rattle.nd_elements.proofs.NamesFromOtherCrates.{ap, sym, subst, along, ranked, all_through}
use Rattle.nd_elements.specs.StoragePlaces.{stored_at}
use Rattle.nd_elements.specs.elements.PairFolds.{FoldsPairsTo}
use Rattle.nd_elements.specs.elements.PairMaps.{pairs_at}
use Rattle.nd_elements.proofs.along_lemmas.LanePart.{lane_holds}
use Rattle.nd_elements.proofs.elements_lemmas.LanesOfBoth.{as_long, both_lie, go_on_both}
use Rattle.nd_elements.proofs.elements_lemmas.PairFolds.{folds_then, folds_later}
use Rattle.nd_elements.proofs.elements_lemmas.PairMaps.{pair_alike}
use Rattle.nd_elements.proofs.elements.zip_fold.fold_pairs_lane_by_lane.Goals as goal

pub fold_pairs_lane-requires-clause-as_long : goal.fold_pairs_lane-requires-clause-as_long
fold_pairs_lane-requires-clause-as_long g c = as_long c.args.places c.args.other_places c.loop-lane.ours c.loop-lane.theirs c.loop-lane.invariant.0 c.in-Some.lane c.in-Some-next.aside c.requires.alike c.in-Some.ensures.along c.in-Some-next.ensures.along

pub fold_pairs_lane-requires-clause-holds : goal.fold_pairs_lane-requires-clause-holds
fold_pairs_lane-requires-clause-holds g c = lane_holds c.args.places c.loop-lane.ours c.in-Some.lane c.loop-lane.invariant.0.0 c.in-Some.ensures.lane.0 (g.S.Data.stored c.args.storage.now) c.requires.holds

pub fold_pairs_lane-requires-clause-others_hold : goal.fold_pairs_lane-requires-clause-others_hold
fold_pairs_lane-requires-clause-others_hold g c = lane_holds c.args.other_places c.loop-lane.theirs c.in-Some-next.aside c.loop-lane.invariant.0.1 c.in-Some-next.ensures.lane.0 (g.Z.Data.stored c.args.others.now) c.requires.others_hold

pub fold_pairs_lane-requires-clause-callable : goal.fold_pairs_lane-requires-clause-callable
fold_pairs_lane-requires-clause-callable g c =
    let found = pairs_at g.S.Data.stored (ranked c.args.places) c.args.storage.now g.Z.Data.stored (ranked c.args.other_places) c.args.others.now in
    let later = pairs_at g.S.Data.stored (along c.in-Some.lane) c.args.storage.now g.Z.Data.stored (along c.in-Some-next.aside) c.args.others.now in
    let lies = both_lie c.args.places c.args.other_places c.loop-lane.ours c.loop-lane.theirs c.loop-lane.invariant.0 c.in-Some.lane c.in-Some-next.aside c.requires.alike c.in-Some.ensures.along c.in-Some-next.ensures.along c.in-Some.ensures.lane.0 c.in-Some-next.ensures.lane.0 in
    folds_later g.F.FnMut found later c.loop-lane.ours.rank c.in-Some.lane.count (ranked c.args.places).count lies.1.within
    (λ j below. pair_alike (ap (stored_at (g.S.Data.stored c.args.storage.now)) (lies.1.places j below)) (ap (stored_at (g.Z.Data.stored c.args.others.now)) (lies.2.places j below)))
    (c.args.f, c.args.init) (c.loop-lane.f, c.loop-lane.total) c.loop-lane.invariant.1 c.requires.callable

pub loop-lane-preserved : goal.loop-lane-preserved
loop-lane-preserved g c =
    let so_far = c.loop-lane.invariant in
    let lane = c.in-Some.lane in
    let found = pairs_at g.S.Data.stored (ranked c.args.places) c.args.storage.now g.Z.Data.stored (ranked c.args.other_places) c.args.others.now in
    let later = pairs_at g.S.Data.stored (along lane) c.args.storage.now g.Z.Data.stored (along c.in-Some-next.aside) c.args.others.now in
    let lies = both_lie c.args.places c.args.other_places c.loop-lane.ours c.loop-lane.theirs so_far.0 lane c.in-Some-next.aside c.requires.alike c.in-Some.ensures.along c.in-Some-next.ensures.along c.in-Some.ensures.lane.0 c.in-Some-next.ensures.lane.0 in (
      go_on_both c.args.places c.args.other_places c.loop-lane.ours c.loop-lane.theirs so_far.0 lane c.in-Some-next.aside c.next.new.self c.next-in-Some.new.self c.in-Some.ensures.over c.in-Some-next.ensures.over c.in-Some.ensures.lane.1 c.in-Some-next.ensures.lane.1 lies.0,
      subst (λ r. FoldsPairsTo g.F.FnMut found (c.args.f, c.args.init) r (c.fold_pairs_lane.result.0, c.fold_pairs_lane.result.1)) (sym c.in-Some.ensures.lane.1)
          (folds_then g.F.FnMut found later c.loop-lane.ours.rank lane.count (λ j below. pair_alike (ap (stored_at (g.S.Data.stored c.args.storage.now)) (lies.1.places j below)) (ap (stored_at (g.Z.Data.stored c.args.others.now)) (lies.2.places j below)))
          (c.args.f, c.args.init) (c.loop-lane.f, c.loop-lane.total) (c.fold_pairs_lane.result.0, c.fold_pairs_lane.result.1) so_far.1 c.fold_pairs_lane.ensures.ran),
    )

pub returns : goal.returns
returns g c =
    let so_far = c.loop-lane.invariant in
    record { ran = subst (λ r. FoldsPairsTo g.F.FnMut (pairs_at g.S.Data.stored (ranked c.args.places) c.args.storage.now g.Z.Data.stored (ranked c.args.other_places) c.args.others.now) (c.args.f, c.args.init) r (c.loop-lane.f, c.loop-lane.total)) (all_through c.args.places c.loop-lane.ours so_far.0.0 c.in_default.ensures.lane.0) so_far.1 }
