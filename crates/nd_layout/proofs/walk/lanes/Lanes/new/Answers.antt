use Rattle.nd_layout.proofs.NamesFromOtherCrates.{arith, rules, slice_index_or, take, pos, w64, FitsSigned, to_z-of_z}
use Rattle.nd_layout.proofs.walk_lemmas.PlacesCutIntoLanes.{checked-front, reach_front, cut_whole, cut_last, along_none, along_last, begin_lanes}
use Rattle.nd_layout.proofs.walk.lanes.Lanes.new.Goals as goal

pub invariant_of-result : goal.invariant_of-result
invariant_of-result c =
    let ns = c.args.lengths.now in
    let ss = c.args.strides.now in
    record {
      some = omega arith;
      passed = omega arith;
      stands = c.of_axes.ensures.given;
      checked = c.requires.checked;
      reach = c.requires.reach;
      begin = rw (c.of_axes.ensures.over.0, c.of_axes.ensures.over.1) (begin_lanes c.args.first ns ss c.args.first ns ss 1 (pos 1) (cut_whole c.args.first ns ss (pos 1)));
      along = λ some. along_none ns ss c.requires.as_many (c.outer_axes-outer.ensures.whole c.if-outer-lengths.true some);
    }

pub invariant_of-new-clause-checked : goal.invariant_of-new-clause-checked
invariant_of-new-clause-checked c = omega (arith, checked-front c.args.lengths.now c.outer_axes-outer.result, c.requires.checked)

pub invariant_of-new-clause-reach : goal.invariant_of-new-clause-reach
invariant_of-new-clause-reach c =
    let last = c.outer_axes-outer.ensures.last (omega (arith, c.outer_axes-outer.ensures.within, c.if-outer-lengths.false)) in
    reach_front c.args.first c.args.lengths.now c.args.strides.now c.requires.as_many c.outer_axes-outer.result last.0 last.1 c.requires.reach

pub invariant_of-result-2 : goal.invariant_of-result-2
invariant_of-result-2 c =
    let ns = c.args.lengths.now in
    let ss = c.args.strides.now in
    let k = c.outer_axes-outer.result in
    let last = c.outer_axes-outer.ensures.last (omega (arith, c.outer_axes-outer.ensures.within, c.if-outer-lengths.false)) in
    let stride = slice_index_or ss k (pos 0) in
    let fits : FitsSigned w64 stride = search rules in
    let cut = cut_last c.args.first ns ss c.requires.as_many k last.0 last.1 in
    record {
      some = last.1;
      passed = omega arith;
      stands = c.new.ensures.given;
      checked = c.requires.checked;
      reach = c.requires.reach;
      begin = rw (to_z-of_z w64 stride fits, c.new.ensures.over.0, c.new.ensures.over.1) (begin_lanes c.args.first ns ss c.args.first (take k ns) (take k ss) (slice_index_or ns k 0) stride cut);
      along = λ some. rw (to_z-of_z w64 stride fits) (along_last ns ss k c.requires.as_many last.0);
    }
