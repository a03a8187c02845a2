use Rattle.nd_elements.proofs.NamesFromOtherCrates.{◌≡◌, ◌<◌, ◌++◌, ◌∷◌, ◌∙◌, [], refl, ap, sym, subst, arith, length-append, Some}
use Rattle.nd_elements.specs.StoragePlaces.{names_place}
use Rattle.nd_elements.specs.along.PlacesOfAxisLanes.{lanes_in}
use Rattle.nd_elements.specs.along.LanesWritten.{MayBeHandedLane, AreHandedOut}
use Rattle.nd_elements.proofs.along_lemmas.AxisLanes.{lane_in_turn}
use Rattle.nd_elements.proofs.along_lemmas.LanesLentAsParts.{lane_line, leaves_same, handed_none, handed_next, handed_more, kept_places}
use Rattle.nd_elements.proofs.along.map_axis_mut.hand_lanes.Goals as goal

pub answer_lane-after-requires-clause-apart : goal.answer_lane-after-requires-clause-apart
answer_lane-after-requires-clause-apart g c j k below under same =
    let here = lane_in_turn c.in-Some.lane c.loop-lane.invariant.0 c.in-Some.ensures.lane.0 in let rank = c.loop-lane.turns.given in
    (c.requires.apart rank j rank k here.0 here.0 (subst (λ n. j < n) here.1 below) (subst (λ n. k < n) here.1 under) (sym (here.2 j) ∙ (same ∙ here.2 k))).1

pub answer_lane-after-requires-clause-holds : goal.answer_lane-after-requires-clause-holds
answer_lane-after-requires-clause-holds g c k below =
    let so_far = c.loop-lane.invariant in let here = lane_in_turn c.in-Some.lane so_far.0 c.in-Some.ensures.lane.0 in
    let rank = c.loop-lane.turns.given in let now = g.S.Data.stored c.loop-lane.storage in
    ap (names_place now) (here.2 k) ∙ kept_places (g.S.Data.stored c.args.storage.now) now so_far.2 ((lanes_in c.args.lanes).place rank k) (c.requires.holds rank k here.0 (subst (λ n. k < n) here.1 below))

pub answer_lane-after-requires-clause-callable : goal.answer_lane-after-requires-clause-callable
answer_lane-after-requires-clause-callable g c =
    let so_far = c.loop-lane.invariant in let here = lane_in_turn c.in-Some.lane so_far.0 c.in-Some.ensures.lane.0 in
    let rank = c.loop-lane.turns.given in let now = g.S.Data.stored c.loop-lane.storage in let at = lanes_in c.args.lanes in
    subst (λ l. MayBeHandedLane g.F.FnMut c.loop-lane.now (Some l)) (sym (lane_line now (at.place rank) c.in-Some.lane.place c.in-Some.lane.count at.count c.in-Some.lane.stride here.2 here.1))
    (handed_next g.F.FnMut at.place at.lanes at.count (g.S.Data.stored c.args.storage.now) c.args.f c.requires.apart rank here.0 now c.loop-lane.now so_far.1.0 so_far.1.2 c.requires.callable)

pub loop-lane-preserved : goal.loop-lane-preserved
loop-lane-preserved g c =
    let at = lanes_in c.args.lanes in let so_far = c.loop-lane.invariant in
    let here = lane_in_turn c.in-Some.lane so_far.0 c.in-Some.ensures.lane.0 in let rank = c.loop-lane.turns.given in let lane = c.in-Some.lane in
    let old = g.S.Data.stored c.args.storage.now in let now = g.S.Data.stored c.loop-lane.storage in
    let new = g.S.Data.stored c.answer_lane-after.new.storage in let after = c.answer_lane-after.result.0 in
    let answer = c.answer_lane-after.result.1 in let answers = so_far.1.0 in
    let called = leaves_same g.F.FnMut c.loop-lane.now after answer _ _ _ _ (lane_line now (at.place rank) lane.place lane.count at.count lane.stride here.2 here.1) (lane_line new (at.place rank) lane.place lane.count at.count lane.stride here.2 here.1) c.answer_lane-after.ensures.called in
    let handed = handed_more g.F.FnMut at.place at.lanes at.count old c.args.f c.requires.apart rank here.0 now c.loop-lane.now answers so_far.1.2 new after answer called
    (λ p nowhere. c.answer_lane-after.ensures.left p (λ k below e. nowhere k (subst (λ n. k < n) here.1 below) (sym (here.2 k) ∙ e))) in
    let long = length-append answers (answer ∷ []) in let many = so_far.1.1 in
    let next = c.in-Some.ensures.lane.1 in (
      c.in-Some.ensures.lanes ∙ so_far.0,
      (
        answers ++ answer ∷ [],
        omega (arith, long, many, next),
        subst (λ r. AreHandedOut g.F.FnMut at.place at.lanes at.count r old new c.args.f (after, answers ++ answer ∷ [])) (sym next) handed,
      ),
      (λ p has. c.answer_lane-after.ensures.there p (so_far.2 p has)),
      c.answer_lane-after.ensures.frame ∙ so_far.3,
    )

pub returns-clause-handed : goal.returns-clause-handed
returns-clause-handed g c =
    let at = lanes_in c.args.lanes in let so_far = c.loop-lane.invariant in
    let all : c.loop-lane.turns.given ≡ at.lanes = c.in_default.ensures.lane ∙ ap (λ l. (lanes_in l).lanes) so_far.0 in
    (so_far.1.0, so_far.1.1 ∙ all, subst (λ r. AreHandedOut g.F.FnMut at.place at.lanes at.count r (g.S.Data.stored c.args.storage.now) (g.S.Data.stored c.loop-lane.storage) c.args.f (c.loop-lane.now, so_far.1.0)) all so_far.1.2)

pub loop-lane-init : goal.loop-lane-init
loop-lane-init g c =
    let at = lanes_in c.args.lanes in let none = c.in_turn-turns.ensures.given in
    let stored = g.S.Data.stored c.args.storage.now in (
      c.in_turn-turns.ensures.lanes,
      ([], sym none, subst (λ r. AreHandedOut g.F.FnMut at.place at.lanes at.count r stored stored c.args.f (c.args.f, [])) (sym none) (handed_none g.F.FnMut at.place at.lanes at.count stored c.args.f)),
      (λ p has. has),
      refl,
    )
