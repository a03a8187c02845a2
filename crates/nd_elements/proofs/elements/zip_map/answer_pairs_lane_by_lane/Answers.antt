use Rattle.nd_elements.proofs.NamesFromOtherCrates.{[], ap, sym, subst, arith, ◌∙◌, vec_len, vec_capacity, along, ranked, all_through}
use Rattle.nd_elements.specs.StoragePlaces.{stored_at}
use Rattle.nd_elements.specs.elements.ElementMaps.{AnswersAfter}
use Rattle.nd_elements.specs.elements.PairMaps.{AnswersPair, MayBeShownPair, pairs_at}
use Rattle.nd_elements.proofs.along_lemmas.LanePart.{lane_holds, room_first}
use Rattle.nd_elements.proofs.elements_lemmas.LanesOfBoth.{as_long, both_lie, go_on_both}
use Rattle.nd_elements.proofs.elements_lemmas.MappedElements.{after_none, after_ran, after_then, takes_later}
use Rattle.nd_elements.proofs.elements_lemmas.PairMaps.{pair_alike}
use Rattle.nd_elements.proofs.elements.zip_map.answer_pairs_lane_by_lane.Goals as goal

pub answer_pairs_lane-now-requires-clause-as_long : goal.answer_pairs_lane-now-requires-clause-as_long
answer_pairs_lane-now-requires-clause-as_long g c = as_long c.args.places c.args.other_places c.loop-lane.ours c.loop-lane.theirs c.loop-lane.invariant.0 c.in-Some.lane c.in-Some-next.aside c.requires.alike c.in-Some.ensures.along c.in-Some-next.ensures.along

pub answer_pairs_lane-now-requires-clause-holds : goal.answer_pairs_lane-now-requires-clause-holds
answer_pairs_lane-now-requires-clause-holds g c = lane_holds c.args.places c.loop-lane.ours c.in-Some.lane c.loop-lane.invariant.0.0 c.in-Some.ensures.lane.0 (g.S.Data.stored c.args.storage.now) c.requires.holds

pub answer_pairs_lane-now-requires-clause-others_hold : goal.answer_pairs_lane-now-requires-clause-others_hold
answer_pairs_lane-now-requires-clause-others_hold g c = lane_holds c.args.other_places c.loop-lane.theirs c.in-Some-next.aside c.loop-lane.invariant.0.1 c.in-Some-next.ensures.lane.0 (g.Z.Data.stored c.args.others.now) c.requires.others_hold

pub answer_pairs_lane-now-requires-clause-room : goal.answer_pairs_lane-now-requires-clause-room
answer_pairs_lane-now-requires-clause-room g c = room_first c.args.places c.loop-lane.ours c.in-Some.lane c.loop-lane.invariant.0.0 c.in-Some.ensures.lane.0 (vec_len c.loop-lane.items) (vec_capacity c.loop-lane.items) c.loop-lane.invariant.2 c.loop-lane.invariant.3

pub answer_pairs_lane-now-requires-clause-callable : goal.answer_pairs_lane-now-requires-clause-callable
answer_pairs_lane-now-requires-clause-callable g c =
    let at = ranked c.args.places in
    let found = pairs_at g.S.Data.stored at c.args.storage.now g.Z.Data.stored (ranked c.args.other_places) c.args.others.now in
    let later = pairs_at g.S.Data.stored (along c.in-Some.lane) c.args.storage.now g.Z.Data.stored (along c.in-Some-next.aside) c.args.others.now in
    let lies = both_lie c.args.places c.args.other_places c.loop-lane.ours c.loop-lane.theirs c.loop-lane.invariant.0 c.in-Some.lane c.in-Some-next.aside c.requires.alike c.in-Some.ensures.along c.in-Some-next.ensures.along c.in-Some.ensures.lane.0 c.in-Some-next.ensures.lane.0 in
    takes_later (AnswersPair g.F.FnMut) (MayBeShownPair g.F.FnMut) found later c.loop-lane.ours.rank c.in-Some.lane.count at.count lies.1.within
    (λ j below. pair_alike (ap (stored_at (g.S.Data.stored c.args.storage.now)) (lies.1.places j below)) (ap (stored_at (g.Z.Data.stored c.args.others.now)) (lies.2.places j below))) c.args.f c.loop-lane.now
    (after_ran (AnswersPair g.F.FnMut) found c.loop-lane.ours.rank [] c.loop-lane.items.items c.args.f c.loop-lane.now c.loop-lane.invariant.1) c.requires.callable

pub loop-lane-preserved : goal.loop-lane-preserved
loop-lane-preserved g c =
    let so_far = c.loop-lane.invariant in
    let lane = c.in-Some.lane in
    let given = c.in-Some.ensures.lane in
    let rank = c.loop-lane.ours.rank in
    let found = pairs_at g.S.Data.stored (ranked c.args.places) c.args.storage.now g.Z.Data.stored (ranked c.args.other_places) c.args.others.now in
    let later = pairs_at g.S.Data.stored (along lane) c.args.storage.now g.Z.Data.stored (along c.in-Some-next.aside) c.args.others.now in
    let lies = both_lie c.args.places c.args.other_places c.loop-lane.ours c.loop-lane.theirs so_far.0 lane c.in-Some-next.aside c.requires.alike c.in-Some.ensures.along c.in-Some-next.ensures.along given.0 c.in-Some-next.ensures.lane.0 in (
      go_on_both c.args.places c.args.other_places c.loop-lane.ours c.loop-lane.theirs so_far.0 lane c.in-Some-next.aside c.next.new.self c.next-in-Some.new.self c.in-Some.ensures.over c.in-Some-next.ensures.over given.1 c.in-Some-next.ensures.lane.1 lies.0,
      subst (λ r. AnswersAfter (AnswersPair g.F.FnMut) found r [] c.answer_pairs_lane-now.new.items.items c.args.f c.answer_pairs_lane-now.result) (sym given.1)
          (after_then (AnswersPair g.F.FnMut) found later rank lane.count (λ j below. pair_alike (ap (stored_at (g.S.Data.stored c.args.storage.now)) (lies.1.places j below)) (ap (stored_at (g.Z.Data.stored c.args.others.now)) (lies.2.places j below)))
          [] c.loop-lane.items.items c.answer_pairs_lane-now.new.items.items c.args.f c.loop-lane.now c.answer_pairs_lane-now.result so_far.1 c.answer_pairs_lane-now.ensures.pushed),
      (let e = so_far.2 in let l = c.answer_pairs_lane-now.ensures.len in let n = given.1 in omega (arith, e, l, n)),
      (let e = so_far.3 in let l = c.answer_pairs_lane-now.ensures.room in omega (arith, e, l)),
    )

pub returns-clause-answers : goal.returns-clause-answers
returns-clause-answers g c =
    let so_far = c.loop-lane.invariant in
    let found = pairs_at g.S.Data.stored (ranked c.args.places) c.args.storage.now g.Z.Data.stored (ranked c.args.other_places) c.args.others.now in
    subst (λ n. AnswersAfter (AnswersPair g.F.FnMut) found n [] c.loop-lane.items.items c.args.f c.loop-lane.now) (all_through c.args.places c.loop-lane.ours so_far.0.0 c.in_default.ensures.lane.0) so_far.1

pub returns-clause-count : goal.returns-clause-count
returns-clause-count g c = let so_far = c.loop-lane.invariant in so_far.2 ∙ all_through c.args.places c.loop-lane.ours so_far.0.0 c.in_default.ensures.lane.0

pub loop-lane-init : goal.loop-lane-init
loop-lane-init g c =
    let found = pairs_at g.S.Data.stored (ranked c.args.places) c.args.storage.now g.Z.Data.stored (ranked c.args.other_places) c.args.others.now in
    let start = sym c.lanes-ours.ensures.rank in (
      (c.lanes-ours.ensures.over, c.lanes-theirs.ensures.over, c.lanes-theirs.ensures.rank ∙ start),
      subst (λ r. AnswersAfter (AnswersPair g.F.FnMut) found r [] c.args.room.items c.args.f c.args.f) start
          (subst (λ xs. AnswersAfter (AnswersPair g.F.FnMut) found 0 [] xs c.args.f c.args.f) (sym c.requires.empty.0) (after_none (AnswersPair g.F.FnMut) found [] c.args.f)),
      c.requires.empty.1 ∙ start,
      c.requires.room,
    )
