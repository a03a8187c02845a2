use Rattle.nd_elements.proofs.NamesFromOtherCrates.{◌≡◌, ◌+◌, ◌<◌, ℕ, [], sym, subst, arith, ranked, all_through}
use Rattle.nd_elements.specs.BorrowedAndOwnedStorages.{shown_by}
use Rattle.nd_elements.specs.elements.ElementMaps.{AnswersAfter, TakesNumbered}
use Rattle.nd_elements.proofs.along_lemmas.LanePart.{lane_holds}
use Rattle.nd_elements.proofs.elements_lemmas.LanesOfBoth.{both_lie, go_on_both}
use Rattle.nd_elements.proofs.elements_lemmas.MappedElements.{after_ran, after_then, takes_later}
use Rattle.nd_array_core.specs.elements.TripleMaps.{AnswersTriple, MayBeShownTriple, lanes_show, ranks_show}
use Rattle.nd_array_core.proofs.elements_lemmas.ClosuresOnTriples.{lane_of_ranks, triple_alike}
use Rattle.nd_array_core.proofs.elements.zip_map_with_two.answer_three.Goals as goal

pub lane-ahead-requires : goal.lane-ahead-requires
lane-ahead-requires g c = lane_holds c.args.one.now.places c.loop-lane.ours c.in-Some.lane c.loop-lane.invariant.0.0.0 c.in-Some.ensures.lane.0 (shown_by c.args.one.now.elements) c.args.one.now.holds

pub lane-aside-requires : goal.lane-aside-requires
lane-aside-requires g c = lane_holds c.args.two.now.places c.loop-lane.theirs c.in-Some-next.second c.loop-lane.invariant.0.0.1 c.in-Some-next.ensures.lane.0 (shown_by c.args.two.now.elements) c.args.two.now.holds

pub lane-third_seen-requires : goal.lane-third_seen-requires
lane-third_seen-requires g c = lane_holds c.args.three.now.places c.loop-lane.others c.in-Some-next-2.third c.loop-lane.invariant.0.1.1 c.in-Some-next-2.ensures.lane.0 (shown_by c.args.three.now.elements) c.args.three.now.holds

pub answer_lane-now-requires-clause-callable : goal.answer_lane-now-requires-clause-callable
answer_lane-now-requires-clause-callable g c =
    let one = c.args.one.now in
    let two = c.args.two.now in
    let three = c.args.three.now in
    let so_far = c.loop-lane.invariant in
    let lane = c.in-Some.lane in
    let rank = c.loop-lane.ours.rank in
    let found = ranks_show one two three in
    let later = lanes_show c.lane-ahead.result c.lane-aside.result c.lane-third_seen.result in
    let second = both_lie one.places two.places c.loop-lane.ours c.loop-lane.theirs so_far.0.0 lane c.in-Some-next.second c.requires.two c.in-Some.ensures.along c.in-Some-next.ensures.along c.in-Some.ensures.lane.0 c.in-Some-next.ensures.lane.0 in
    let third = both_lie one.places three.places c.loop-lane.ours c.loop-lane.others so_far.0.1 lane c.in-Some-next-2.third c.requires.three c.in-Some.ensures.along c.in-Some-next-2.ensures.along c.in-Some.ensures.lane.0 c.in-Some-next-2.ensures.lane.0 in
    let goes_on : (j : ℕ) → j < lane.count → later j ≡ found (rank + j) = λ j below. triple_alike (lane_of_ranks c.lane-ahead.result one lane c.lane-ahead.ensures.elements c.lane-ahead.ensures.lane second.1 j below)
    (lane_of_ranks c.lane-aside.result two c.in-Some-next.second c.lane-aside.ensures.elements c.lane-aside.ensures.lane second.2 j below) (lane_of_ranks c.lane-third_seen.result three c.in-Some-next-2.third c.lane-third_seen.ensures.elements c.lane-third_seen.ensures.lane third.2 j below) in
    subst (TakesNumbered (AnswersTriple g.F.FnMut) (MayBeShownTriple g.F.FnMut) later c.loop-lane.now) (sym c.lane-ahead.ensures.count)
    (takes_later (AnswersTriple g.F.FnMut) (MayBeShownTriple g.F.FnMut) found later rank lane.count (ranked one.places).count second.1.within goes_on c.args.f c.loop-lane.now
    (after_ran (AnswersTriple g.F.FnMut) found rank [] c.loop-lane.items.items c.args.f c.loop-lane.now so_far.1) c.requires.callable)

pub loop-lane-preserved : goal.loop-lane-preserved
loop-lane-preserved g c =
    let one = c.args.one.now in
    let two = c.args.two.now in
    let three = c.args.three.now in
    let so_far = c.loop-lane.invariant in
    let lane = c.in-Some.lane in
    let given = c.in-Some.ensures.lane in
    let rank = c.loop-lane.ours.rank in
    let found = ranks_show one two three in
    let later = lanes_show c.lane-ahead.result c.lane-aside.result c.lane-third_seen.result in
    let second = both_lie one.places two.places c.loop-lane.ours c.loop-lane.theirs so_far.0.0 lane c.in-Some-next.second c.requires.two c.in-Some.ensures.along c.in-Some-next.ensures.along given.0 c.in-Some-next.ensures.lane.0 in
    let third = both_lie one.places three.places c.loop-lane.ours c.loop-lane.others so_far.0.1 lane c.in-Some-next-2.third c.requires.three c.in-Some.ensures.along c.in-Some-next-2.ensures.along given.0 c.in-Some-next-2.ensures.lane.0 in
    let goes_on : (j : ℕ) → j < lane.count → later j ≡ found (rank + j) = λ j below. triple_alike (lane_of_ranks c.lane-ahead.result one lane c.lane-ahead.ensures.elements c.lane-ahead.ensures.lane second.1 j below)
    (lane_of_ranks c.lane-aside.result two c.in-Some-next.second c.lane-aside.ensures.elements c.lane-aside.ensures.lane second.2 j below) (lane_of_ranks c.lane-third_seen.result three c.in-Some-next-2.third c.lane-third_seen.ensures.elements c.lane-third_seen.ensures.lane third.2 j below) in
    let pushed = subst (λ n. AnswersAfter (AnswersTriple g.F.FnMut) later n c.loop-lane.items.items c.answer_lane-now.new.items.items c.loop-lane.now c.answer_lane-now.result) c.lane-ahead.ensures.count c.answer_lane-now.ensures.pushed in (
      (
        go_on_both one.places two.places c.loop-lane.ours c.loop-lane.theirs so_far.0.0 lane c.in-Some-next.second c.next.new.self c.next-in-Some.new.self c.in-Some.ensures.over c.in-Some-next.ensures.over given.1 c.in-Some-next.ensures.lane.1 second.0,
        go_on_both one.places three.places c.loop-lane.ours c.loop-lane.others so_far.0.1 lane c.in-Some-next-2.third c.next.new.self c.next-in-Some-next.new.self c.in-Some.ensures.over c.in-Some-next-2.ensures.over given.1 c.in-Some-next-2.ensures.lane.1 third.0,
      ),
      subst (λ r. AnswersAfter (AnswersTriple g.F.FnMut) found r [] c.answer_lane-now.new.items.items c.args.f c.answer_lane-now.result) (sym given.1)
          (after_then (AnswersTriple g.F.FnMut) found later rank lane.count goes_on [] c.loop-lane.items.items c.answer_lane-now.new.items.items c.args.f c.loop-lane.now c.answer_lane-now.result so_far.1 pushed),
      (let e = so_far.2 in let l = c.answer_lane-now.ensures.len in let n = given.1 in let m = c.lane-ahead.ensures.count in omega (arith, e, l, n, m)),
      (let e = so_far.3 in let l = c.answer_lane-now.ensures.room in omega (arith, e, l)),
    )

pub returns-clause-answers : goal.returns-clause-answers
returns-clause-answers g c =
    let one = c.args.one.now in
    let so_far = c.loop-lane.invariant in
    let found = ranks_show one c.args.two.now c.args.three.now in
    subst (λ n. AnswersAfter (AnswersTriple g.F.FnMut) found n [] c.loop-lane.items.items c.args.f c.loop-lane.now) (all_through one.places c.loop-lane.ours so_far.0.0.0 c.in_default.ensures.lane.0) so_far.1
