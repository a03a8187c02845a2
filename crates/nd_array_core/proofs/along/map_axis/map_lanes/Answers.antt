use Rattle.nd_array_core.proofs.NamesFromOtherCrates.{◌≡◌, ◌<◌, ◌∙◌, ℕ, Some, is_some, ap, sym, subst, arith, insert, fun_ext, size_of, index_at, indexed_shape, RowMajor, in_box-index_at, shown_by, stored_along, stored_at, names_place, lanes_in, AnswersAt, TakesAt, lane_in_turn, lanes_hold, lane_found, IsAnsweredTo, answered_next, answered_more, answered_all}
use Rattle.nd_array_core.specs.ArrayMeaning.{meaning_of, memory_layout_of, shape_of, element_at}
use Rattle.nd_array_core.specs.along.AxisMaps.{lanes_of, lane_seen, AnswersLane, MayBeShownLane}
use Rattle.nd_array_core.proofs.along_lemmas.LanesAsViews.{lane_met}
use Rattle.nd_array_core.proofs.along.map_axis.map_lanes.Goals as goal

pub over-shown-requires : goal.over-shown-requires
unfolding meaning_of memory_layout_of
over-shown-requires g c k under =
    let array = c.args.array.now in
    let stored = g.S.Data.stored array.storage in
    let here = lane_in_turn c.in-Some.lane c.loop-lane.invariant.0 c.in-Some.ensures.lane.0 in
    let lane = c.in-Some.lane in
    (λ i. is_some (stored_along (fun_ext c.borrowed.ensures i) lane.place lane.stride k)) ∙ (ap (names_place stored) (here.2 k) ∙ lanes_hold c.requires.along stored array.inside c.loop-lane.turns.given k here.0 (subst (λ m. k < m) here.1 under))

pub f-requires : goal.f-requires
unfolding meaning_of memory_layout_of
f-requires g c =
    let array = c.args.array.now in
    let os = indexed_shape (shape_of array) c.args.axis.0 in
    let lies = c.requires.along in
    let so_far = c.loop-lane.invariant in
    let rank = c.loop-lane.turns.given in
    let here = lane_in_turn c.in-Some.lane so_far.0 c.in-Some.ensures.lane.0 in
    let below : rank < size_of os = subst (λ m. rank < m) lies.lanes here.0 in
    let lane = c.in-Some.lane in
    let view = c.over-shown.result in
    let over = c.over-shown.ensures in
    let found : (k : ℕ) → k < view.lane.count → stored_along (shown_by view.storage) view.lane.place view.lane.stride k ≡ element_at array (insert (index_at os rank) c.args.axis.0 k) = λ k under.
    (λ i. stored_along (shown_by (over.storage i)) (over.lane.0 i) (over.lane.2 i) k) ∙ ((λ i. stored_along (fun_ext c.borrowed.ensures i) lane.place lane.stride k) ∙
    (ap (stored_at (g.S.Data.stored array.storage)) (here.2 k) ∙ lane_found lies (g.S.Data.stored array.storage) rank k here.0 (subst (λ m. k < m) (over.lane.1 ∙ here.1) under))) in
    let lane_is : (lanes_of (meaning_of array) c.args.axis.0).at (index_at os rank) ≡ Some (lane_seen view) = lane_met (meaning_of array) c.args.axis.0 (index_at os rank) (in_box-index_at os rank below) view (over.lane.1 ∙ (here.1 ∙ lies.count)) found in
    answered_next (AnswersAt (AnswersLane g.F.FnMut) (lanes_of (meaning_of array) c.args.axis.0).at) (os, RowMajor) (TakesAt (MayBeShownLane g.F.FnMut) (lanes_of (meaning_of array) c.args.axis.0).at) c.args.f c.loop-lane.items.items rank c.loop-lane.f below c.requires.callable so_far.3 view lane_is

pub loop-lane-preserved : goal.loop-lane-preserved
unfolding meaning_of memory_layout_of
loop-lane-preserved g c =
    let array = c.args.array.now in
    let os = indexed_shape (shape_of array) c.args.axis.0 in
    let lies = c.requires.along in
    let so_far = c.loop-lane.invariant in
    let rank = c.loop-lane.turns.given in
    let here = lane_in_turn c.in-Some.lane so_far.0 c.in-Some.ensures.lane.0 in
    let below : rank < size_of os = subst (λ m. rank < m) lies.lanes here.0 in
    let lane = c.in-Some.lane in
    let view = c.over-shown.result in
    let over = c.over-shown.ensures in
    let found : (k : ℕ) → k < view.lane.count → stored_along (shown_by view.storage) view.lane.place view.lane.stride k ≡ element_at array (insert (index_at os rank) c.args.axis.0 k) = λ k under.
    (λ i. stored_along (shown_by (over.storage i)) (over.lane.0 i) (over.lane.2 i) k) ∙ ((λ i. stored_along (fun_ext c.borrowed.ensures i) lane.place lane.stride k) ∙
    (ap (stored_at (g.S.Data.stored array.storage)) (here.2 k) ∙ lane_found lies (g.S.Data.stored array.storage) rank k here.0 (subst (λ m. k < m) (over.lane.1 ∙ here.1) under))) in
    let lane_is : (lanes_of (meaning_of array) c.args.axis.0).at (index_at os rank) ≡ Some (lane_seen view) = lane_met (meaning_of array) c.args.axis.0 (index_at os rank) (in_box-index_at os rank below) view (over.lane.1 ∙ (here.1 ∙ lies.count)) found in
    let next = c.in-Some.ensures.lane.1 in
    let longer = c.push_reserved.ensures.len in
    let capacity = c.push_reserved.ensures.capacity in
    let room = so_far.1 in
    let many = so_far.2 in (
      c.in-Some.ensures.lanes ∙ so_far.0,
      omega (arith, room, capacity),
      omega (arith, many, longer, next),
      subst (λ r. IsAnsweredTo (AnswersAt (AnswersLane g.F.FnMut) (lanes_of (meaning_of array) c.args.axis.0).at) (os, RowMajor) c.args.f c.push_reserved.new.self.items r c.f.new.self) (sym next)
          (answered_more (AnswersAt (AnswersLane g.F.FnMut) (lanes_of (meaning_of array) c.args.axis.0).at) (os, RowMajor) c.args.f c.loop-lane.items.items c.push_reserved.new.self.items rank c.loop-lane.f c.f.new.self c.f.result below c.push_reserved.ensures.items
          (view, lane_is, c.f.ensures) so_far.3),
    )

pub returns-clause-visits : goal.returns-clause-visits
unfolding meaning_of memory_layout_of
returns-clause-visits g c =
    let array = c.args.array.now in
    let so_far = c.loop-lane.invariant in
    let all : c.loop-lane.turns.given ≡ size_of (indexed_shape (shape_of array) c.args.axis.0) = c.in_default.ensures.lane ∙ (ap (λ l. (lanes_in l).lanes) so_far.0 ∙ c.requires.along.lanes) in
    answered_all (AnswersAt (AnswersLane g.F.FnMut) (lanes_of (meaning_of array) c.args.axis.0).at) (indexed_shape (shape_of array) c.args.axis.0, RowMajor) c.args.f c.loop-lane.items.items c.loop-lane.turns.given c.loop-lane.f all so_far.3
