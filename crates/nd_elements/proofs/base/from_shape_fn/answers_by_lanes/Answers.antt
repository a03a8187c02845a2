use Rattle.nd_elements.proofs.NamesFromOtherCrates.{◌≡◌, ◌+◌, ◌-◌, ◌*◌, ◌∙◌, length, take, ap, sym, subst, arith, refl, pos, length-set, length-replicate, length-take-le, vec_len, vec_capacity, size_of, slowest_first, reaches_usizes}
use Rattle.nd_elements.specs.CallsInFreeOrder.{AnswersIndex, TakesIndex}
use Rattle.nd_elements.proofs.along_lemmas.IndexesLaneByLane.{rests_reach, outer_checked, outer_walked, outer_within, room_at, lane_at, lanes_done, lane_none, lane_through}
use Rattle.nd_elements.proofs.ClosureResultsInOrder.{IsAnsweredTo, answered_next, answered_more, answered_all, answered_none}
use Rattle.nd_elements.proofs.base.from_shape_fn.answers_by_lanes.Goals as goal

pub put_outer-requires : goal.put_outer-requires
put_outer-requires g c = record { as_many = c.loop-index.invariant.1 ∙ sym (outer_walked c.args.order (g.D.Dimension.lengths c.args.dim.now) c.loop-index.outer.lengths.now c.index.result.now c.ndim-last.result c.loop-index.outer.rank c.ndim-last.ensures.value c.requires.axes c.loop-index.invariant.0 c.in-Some.ensures.0 (c.index.ensures c.in-Some.ensures.0)).1 }

pub loop-k-init : goal.loop-k-init
loop-k-init g c =
    let so_far = c.loop-index.invariant in
    let walked = outer_walked c.args.order (g.D.Dimension.lengths c.args.dim.now) c.loop-index.outer.lengths.now c.index.result.now c.ndim-last.result c.loop-index.outer.rank c.ndim-last.ensures.value c.requires.axes c.loop-index.invariant.0 c.in-Some.ensures.0 (c.index.ensures c.in-Some.ensures.0) in
    let long : length c.index.result.now ≡ c.ndim-last.result - 1 = omega (arith, walked.1, c.ndim-last.ensures.value) in
    let none : c.loop-index.outer.rank * c.length-count.result ≡ c.loop-index.outer.rank * c.length-count.result + 0 = omega arith in (
      c.put_outer.ensures.as_many ∙ walked.1,
      subst (λ m. take m (slowest_first c.args.order (g.D.Dimension.lengths c.put_outer.new.index)) ≡ c.index.result.now) long c.put_outer.ensures.put ∙ walked.0,
      so_far.2,
      so_far.3 ∙ none,
      omega arith,
      subst (λ r. IsAnsweredTo (AnswersIndex g.F.FnMut g.D.IntoPattern.pattern_lengths) (g.D.Dimension.lengths c.args.dim.now, c.args.order) c.args.f c.loop-index.items.items r c.loop-index.f) none so_far.4,
    )

pub f-requires : goal.f-requires
f-requires g c =
    let ns = g.D.Dimension.lengths c.args.dim.now in
    let o = c.args.order in
    let q = c.loop-index.outer.rank in
    let so_far = c.loop-k.invariant in
    let k = c.loop-k.k in
    let lane = lane_at o ns (g.D.Dimension.lengths c.loop-k.index) c.loop-index.outer.lengths.now (g.D.Dimension.lengths c.slow_lengths-slow.result) c.ndim-last.result q k c.slow_axis_at-fastest.result c.length-count.result c.ndim-last.ensures.value so_far.0 c.slow_axis_at-fastest.ensures.value c.slow_lengths-slow.ensures c.length-count.ensures c.requires.axes c.requires.some c.loop-index.invariant.0 c.in-Some.ensures.0 c.loop-k-test.true so_far.1 in
    answered_next (AnswersIndex g.F.FnMut g.D.IntoPattern.pattern_lengths) (ns, o) (TakesIndex g.F.FnMut g.D.IntoPattern.pattern_lengths) c.args.f c.loop-k.items.items (q * c.length-count.result + k) c.loop-k.f lane.1 c.requires.callable so_far.5 c.into_pattern.result (c.into_pattern.ensures ∙ (c.set_length.ensures ∙ lane.0))

pub push_reserved-requires : goal.push_reserved-requires
push_reserved-requires g c =
    let ns = g.D.Dimension.lengths c.args.dim.now in
    let o = c.args.order in
    let q = c.loop-index.outer.rank in
    let so_far = c.loop-k.invariant in
    let k = c.loop-k.k in
    let lane = lane_at o ns (g.D.Dimension.lengths c.loop-k.index) c.loop-index.outer.lengths.now (g.D.Dimension.lengths c.slow_lengths-slow.result) c.ndim-last.result q k c.slow_axis_at-fastest.result c.length-count.result c.ndim-last.ensures.value so_far.0 c.slow_axis_at-fastest.ensures.value c.slow_lengths-slow.ensures c.length-count.ensures c.requires.axes c.requires.some c.loop-index.invariant.0 c.in-Some.ensures.0 c.loop-k-test.true so_far.1 in
    room_at (size_of ns) (vec_capacity c.loop-k.items) (vec_len c.loop-k.items) (q * c.length-count.result + k) lane.1 so_far.2 so_far.3

pub loop-k-preserved : goal.loop-k-preserved
loop-k-preserved g c =
    let ns = g.D.Dimension.lengths c.args.dim.now in
    let o = c.args.order in
    let q = c.loop-index.outer.rank in
    let so_far = c.loop-k.invariant in
    let k = c.loop-k.k in
    let lane = lane_at o ns (g.D.Dimension.lengths c.loop-k.index) c.loop-index.outer.lengths.now (g.D.Dimension.lengths c.slow_lengths-slow.result) c.ndim-last.result q k c.slow_axis_at-fastest.result c.length-count.result c.ndim-last.ensures.value so_far.0 c.slow_axis_at-fastest.ensures.value c.slow_lengths-slow.ensures c.length-count.ensures c.requires.axes c.requires.some c.loop-index.invariant.0 c.in-Some.ensures.0 c.loop-k-test.true so_far.1 in
    let next : q * c.length-count.result + k + 1 ≡ q * c.length-count.result + (k + 1) = omega arith in
    let more = answered_more (AnswersIndex g.F.FnMut g.D.IntoPattern.pattern_lengths) (ns, o) c.args.f c.loop-k.items.items c.push_reserved.new.self.items (q * c.length-count.result + k) c.loop-k.f c.f.new.self c.f.result lane.1 c.push_reserved.ensures.items (c.into_pattern.result, c.into_pattern.ensures ∙ (c.set_length.ensures ∙ lane.0), c.f.ensures) so_far.5 in (
      ap length c.set_length.ensures ∙ (length-set (g.D.Dimension.lengths c.loop-k.index) c.slow_axis_at-fastest.result k ∙ so_far.0),
      ap (λ l. take (c.ndim-last.result - 1) (slowest_first o l)) c.set_length.ensures ∙ (lane.2 ∙ so_far.1),
      omega (arith, so_far.2, c.push_reserved.ensures.capacity),
      omega (arith, so_far.3, c.push_reserved.ensures.len),
      omega (arith, c.loop-k-test.true),
      subst (λ r. IsAnsweredTo (AnswersIndex g.F.FnMut g.D.IntoPattern.pattern_lengths) (ns, o) c.args.f c.push_reserved.new.self.items r c.f.new.self) next more,
    )

pub returns : goal.returns
returns g c =
    let ns = g.D.Dimension.lengths c.args.dim.now in
    let done = lanes_done c.args.order ns c.loop-index.outer.lengths.now (g.D.Dimension.lengths c.slow_lengths-slow.result) c.ndim-last.result c.loop-index.outer.rank c.length-count.result c.ndim-last.ensures.value c.requires.axes c.loop-index.invariant.0 c.slow_lengths-slow.ensures c.length-count.ensures c.in_default.ensures in record {
      count = c.loop-index.invariant.3 ∙ done;
      visits = answered_all (AnswersIndex g.F.FnMut g.D.IntoPattern.pattern_lengths) (ns, c.args.order) c.args.f c.loop-index.items.items (c.loop-index.outer.rank * c.length-count.result) c.loop-index.f done c.loop-index.invariant.4;
    }

pub loop-index-init : goal.loop-index-init
loop-index-init g c =
    let ns = g.D.Dimension.lengths c.args.dim.now in
    let none = lane_none c.new-outer.result.rank c.length-count.result c.new-outer.ensures.rank in (
      c.new-outer.ensures.over.1 ∙ ap (take (c.ndim-last.result - 1)) (c.slice.ensures.lengths ∙ c.slow_lengths-slow.ensures),
      refl,
      c.requires.room,
      c.requires.empty.1 ∙ none,
      subst (λ r. IsAnsweredTo (AnswersIndex g.F.FnMut g.D.IntoPattern.pattern_lengths) (ns, c.args.order) c.args.f c.args.room.items r c.args.f) none
          (answered_none (AnswersIndex g.F.FnMut g.D.IntoPattern.pattern_lengths) (ns, c.args.order) c.args.f c.args.room.items c.requires.empty.0),
    )

pub loop-index-preserved : goal.loop-index-preserved
loop-index-preserved g c =
    let inner = c.loop-k.invariant in
    let through = lane_through c.loop-index.outer.rank c.advance.new.self.rank (size_of c.loop-index.outer.lengths.now) c.length-count.result c.loop-k.k c.in-Some.ensures.0 c.advance.ensures.rank inner.4 c.loop-k-test.false in (
      c.advance.ensures.over.1 ∙ c.loop-index.invariant.0,
      inner.0,
      inner.2,
      inner.3 ∙ through,
      subst (λ r. IsAnsweredTo (AnswersIndex g.F.FnMut g.D.IntoPattern.pattern_lengths) (g.D.Dimension.lengths c.args.dim.now, c.args.order) c.args.f c.loop-k.items.items r c.loop-k.f) through inner.5,
    )

pub slice_bounds-new-end : goal.slice_bounds-new-end
slice_bounds-new-end g c =
    sym (length-take-le (c.ndim-last.result - 1) c.slice.result.now (outer_within c.args.order (g.D.Dimension.lengths c.args.dim.now) _ _ (c.ndim-last.result - 1) c.ndim-last.result c.ndim-last.ensures.value (omega arith) c.slice.ensures.lengths c.slow_lengths-slow.ensures))

pub slice_bounds-new-end-2 : goal.slice_bounds-new-end-2
slice_bounds-new-end-2 g c =
    let many = ap length (c.slice-2.ensures ∙ c.zero_strides-strides.ensures) in
    sym (length-take-le (c.ndim-last.result - 1) c.slice-2.result.now (omega (arith, many, length-replicate (length (g.D.Dimension.lengths c.args.dim.now)) (pos 0), c.ndim-last.ensures.value)))

pub new-outer-requires : goal.new-outer-requires
new-outer-requires g c =
    let last = c.ndim-last.result - 1 in record {
      as_many =
          let axes = c.ndim-last.ensures.value in
          length-take-le last c.slice-2.result.now (omega (arith, ap length (c.slice-2.ensures ∙ c.zero_strides-strides.ensures), length-replicate (length (g.D.Dimension.lengths c.args.dim.now)) (pos 0), axes))
          ∙ sym (length-take-le last c.slice.result.now (outer_within c.args.order (g.D.Dimension.lengths c.args.dim.now) _ _ last c.ndim-last.result axes (omega arith) c.slice.ensures.lengths c.slow_lengths-slow.ensures));
      few =
          let long = length-take-le last c.slice.result.now (outer_within c.args.order (g.D.Dimension.lengths c.args.dim.now) _ _ last c.ndim-last.result c.ndim-last.ensures.value (omega arith) c.slice.ensures.lengths c.slow_lengths-slow.ensures) in
          omega (arith, c.ndim-last.ensures.few, long);
      checked = rw (c.slice.ensures.lengths, c.slow_lengths-slow.ensures) (outer_checked c.args.order (g.D.Dimension.lengths c.args.dim.now) (c.ndim-last.result - 1) c.requires.some c.requires.checked);
      reach = rw (c.slice-2.ensures, c.zero_strides-strides.ensures) (reaches_usizes 0 _ _ (rests_reach (length (g.D.Dimension.lengths c.args.dim.now)) (c.ndim-last.result - 1) (take (c.ndim-last.result - 1) c.slice.result.now)));
    }
