use Rattle.nd_elements.proofs.NamesFromOtherCrates.{ap, sym, subst, along, ranked, all_through}
use Rattle.nd_elements.specs.StoragePlaces.{stored_at}
use Rattle.nd_elements.specs.elements.ElementMaps.{RanNumbered}
use Rattle.nd_elements.specs.elements.PairMaps.{AnswersPair, MayBeShownPair, pairs_at}
use Rattle.nd_elements.proofs.along_lemmas.LanePart.{lane_holds}
use Rattle.nd_elements.proofs.elements_lemmas.LanesOfBoth.{as_long, both_lie, go_on_both}
use Rattle.nd_elements.proofs.elements_lemmas.MappedElements.{ran_later, takes_later}
use Rattle.nd_elements.proofs.elements_lemmas.PairMaps.{pair_alike}
use Rattle.nd_elements.proofs.elements.zip_for_each.show_pairs_lane_by_lane.Goals as goal

pub show_pairs_lane-now-requires-clause-as_long : goal.show_pairs_lane-now-requires-clause-as_long
show_pairs_lane-now-requires-clause-as_long g c = as_long c.args.places c.args.other_places c.loop-lane.ours c.loop-lane.theirs c.loop-lane.invariant.0 c.in-Some.lane c.in-Some-next.aside c.requires.alike c.in-Some.ensures.along c.in-Some-next.ensures.along

pub show_pairs_lane-now-requires-clause-holds : goal.show_pairs_lane-now-requires-clause-holds
show_pairs_lane-now-requires-clause-holds g c = lane_holds c.args.places c.loop-lane.ours c.in-Some.lane c.loop-lane.invariant.0.0 c.in-Some.ensures.lane.0 (g.S.Data.stored c.args.storage.now) c.requires.holds

pub show_pairs_lane-now-requires-clause-others_hold : goal.show_pairs_lane-now-requires-clause-others_hold
show_pairs_lane-now-requires-clause-others_hold g c = lane_holds c.args.other_places c.loop-lane.theirs c.in-Some-next.aside c.loop-lane.invariant.0.1 c.in-Some-next.ensures.lane.0 (g.Z.Data.stored c.args.others.now) c.requires.others_hold

pub show_pairs_lane-now-requires-clause-callable : goal.show_pairs_lane-now-requires-clause-callable
show_pairs_lane-now-requires-clause-callable g c =
    let found = pairs_at g.S.Data.stored (ranked c.args.places) c.args.storage.now g.Z.Data.stored (ranked c.args.other_places) c.args.others.now in
    let later = pairs_at g.S.Data.stored (along c.in-Some.lane) c.args.storage.now g.Z.Data.stored (along c.in-Some-next.aside) c.args.others.now in
    let lies = both_lie c.args.places c.args.other_places c.loop-lane.ours c.loop-lane.theirs c.loop-lane.invariant.0 c.in-Some.lane c.in-Some-next.aside c.requires.alike c.in-Some.ensures.along c.in-Some-next.ensures.along c.in-Some.ensures.lane.0 c.in-Some-next.ensures.lane.0 in
    takes_later (AnswersPair g.F.FnMut) (MayBeShownPair g.F.FnMut) found later c.loop-lane.ours.rank c.in-Some.lane.count (ranked c.args.places).count lies.1.within
    (λ j below. pair_alike (ap (stored_at (g.S.Data.stored c.args.storage.now)) (lies.1.places j below)) (ap (stored_at (g.Z.Data.stored c.args.others.now)) (lies.2.places j below)))
    c.args.f c.loop-lane.now c.loop-lane.invariant.1 c.requires.callable

pub loop-lane-preserved : goal.loop-lane-preserved
loop-lane-preserved g c =
    let so_far = c.loop-lane.invariant in
    let lane = c.in-Some.lane in
    let found = pairs_at g.S.Data.stored (ranked c.args.places) c.args.storage.now g.Z.Data.stored (ranked c.args.other_places) c.args.others.now in
    let later = pairs_at g.S.Data.stored (along lane) c.args.storage.now g.Z.Data.stored (along c.in-Some-next.aside) c.args.others.now in
    let lies = both_lie c.args.places c.args.other_places c.loop-lane.ours c.loop-lane.theirs so_far.0 lane c.in-Some-next.aside c.requires.alike c.in-Some.ensures.along c.in-Some-next.ensures.along c.in-Some.ensures.lane.0 c.in-Some-next.ensures.lane.0 in (
      go_on_both c.args.places c.args.other_places c.loop-lane.ours c.loop-lane.theirs so_far.0 lane c.in-Some-next.aside c.next.new.self c.next-in-Some.new.self c.in-Some.ensures.over c.in-Some-next.ensures.over c.in-Some.ensures.lane.1 c.in-Some-next.ensures.lane.1 lies.0,
      subst (λ r. RanNumbered (AnswersPair g.F.FnMut) found c.args.f r c.show_pairs_lane-now.result) (sym c.in-Some.ensures.lane.1)
          (ran_later (AnswersPair g.F.FnMut) found later c.loop-lane.ours.rank lane.count (λ j below. pair_alike (ap (stored_at (g.S.Data.stored c.args.storage.now)) (lies.1.places j below)) (ap (stored_at (g.Z.Data.stored c.args.others.now)) (lies.2.places j below)))
          c.args.f c.loop-lane.now c.show_pairs_lane-now.result so_far.1 c.show_pairs_lane-now.ensures.ran),
    )

pub returns : goal.returns
returns g c =
    let so_far = c.loop-lane.invariant in
    record { ran = subst (λ r. RanNumbered (AnswersPair g.F.FnMut) (pairs_at g.S.Data.stored (ranked c.args.places) c.args.storage.now g.Z.Data.stored (ranked c.args.other_places) c.args.others.now) c.args.f r c.loop-lane.now) (all_through c.args.places c.loop-lane.ours so_far.0.0 c.in_default.ensures.lane.0) so_far.1 }
