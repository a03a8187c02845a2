use Rattle.nd_layout.proofs.NamesFromOtherCrates.{arith, rules, ◌+◌, ◌-◌, ◌<◌, ◌∙◌, slice_index_or, Fits, ℕ, pos, w64, FitsSigned, to_z-of_z, length_within}
use Rattle.nd_layout.proofs.walk_lemmas.NextIndexOfWalk.{stepping_none, stepping_below, advances_inside, advances_rank, advances_lies, advances_to, advances_on, starts_to, stepping_more, from_any}
use Rattle.nd_layout.proofs.walk.walk_over_indexes.advanced.Goals as goal

pub overflow_add-coordinate : goal.overflow_add-coordinate
overflow_add-coordinate c =
    let way = c.loop-axis.invariant in
    let below = stepping_below way.0 c.args.lengths.now c.args.strides.now c.args.index.now c.args.place c.requires.as_many way.1 c.loop-axis.axis (c.loop-axis.axis - 1) c.loop-axis.place c.loop-axis.index (omega arith) way.3 in
    let limit = length_within c.args.lengths.now (c.loop-axis.axis - 1) in
    small_sum (slice_index_or c.loop-axis.index (c.loop-axis.axis - 1) 0) (omega (arith, below, limit, way.3.within, c.requires.checked))
  where
    small_sum : (x : ℕ) → x < 9223372036854775808 → Fits w64 (x + 1)
    small_sum x h = omega (arith, h)

pub loop-axis-init : goal.loop-axis-init
loop-axis-init c =
    let way = c.requires.way in
    (way.0, way.1, way.2, stepping_none way.0 c.args.lengths.now c.args.strides.now c.args.index.now c.args.place c.requires.as_many c.requires.inside way.2)

pub moved_on-requires : goal.moved_on-requires
moved_on-requires c =
    let way = c.loop-axis.invariant in
    let k = c.loop-axis.axis - 1 in
    let fits : FitsSigned w64 (slice_index_or c.args.strides.now k (pos 0)) = search rules in
    rw (to_z-of_z w64 (slice_index_or c.args.strides.now k (pos 0)) fits) (advances_to way.0 c.args.lengths.now c.args.strides.now c.args.index.now c.args.place c.requires.as_many way.1 c.loop-axis.axis k c.loop-axis.place c.loop-axis.index (omega arith) way.3 c.if-coordinate-lengths.true)

pub returns-then-coordinate-lengths : goal.returns-then-coordinate-lengths
returns-then-coordinate-lengths c =
    let way = c.loop-axis.invariant in
    let k = c.loop-axis.axis - 1 in
    let more = c.if-coordinate-lengths.true in
    let fits : FitsSigned w64 (slice_index_or c.args.strides.now k (pos 0)) = search rules in
    let moved = rw (to_z-of_z w64 (slice_index_or c.args.strides.now k (pos 0)) fits) at c.moved_on.ensures in
    record {
      inside = advances_inside way.0 c.args.lengths.now c.args.strides.now c.args.index.now c.args.place c.requires.as_many way.1 c.loop-axis.axis k c.loop-axis.place c.loop-axis.index (omega arith) way.3 more;
      rank = λ _. advances_rank way.0 c.args.lengths.now c.args.strides.now c.args.index.now c.args.place c.requires.as_many way.1 c.loop-axis.axis k c.loop-axis.place c.loop-axis.index (omega arith) way.3;
      moves = λ _. advances_on way.0 c.args.lengths.now c.args.strides.now c.args.index.now c.args.place c.requires.as_many way.1 c.loop-axis.axis k c.loop-axis.place c.loop-axis.index (omega arith) way.3 c.moved_on.result more moved;
      lies = λ other at. from_any way.0 other c.args.place c.moved_on.result c.args.strides.now c.args.index.now _ way.2
          (moved ∙ advances_lies way.0 c.args.lengths.now c.args.strides.now c.args.index.now c.args.place c.requires.as_many way.1 c.loop-axis.axis k c.loop-axis.place c.loop-axis.index (omega arith) way.3) at;
    }

pub moved_back-place-requires : goal.moved_back-place-requires
moved_back-place-requires c =
    let way = c.loop-axis.invariant in
    let k = c.loop-axis.axis - 1 in
    let fits : FitsSigned w64 (slice_index_or c.args.strides.now k (pos 0)) = search rules in
    rw (to_z-of_z w64 (slice_index_or c.args.strides.now k (pos 0)) fits) (starts_to way.0 c.args.lengths.now c.args.strides.now c.args.index.now c.args.place c.requires.as_many way.1 c.loop-axis.axis k c.loop-axis.place c.loop-axis.index (omega arith) way.3)

pub loop-axis-preserved : goal.loop-axis-preserved
loop-axis-preserved c =
    let way = c.loop-axis.invariant in
    let k = c.loop-axis.axis - 1 in
    let fits : FitsSigned w64 (slice_index_or c.args.strides.now k (pos 0)) = search rules in (
      way.0,
      way.1,
      way.2,
      stepping_more way.0 c.args.lengths.now c.args.strides.now c.args.index.now c.args.place c.requires.as_many way.1 c.loop-axis.axis k c.loop-axis.place c.loop-axis.index (omega arith) way.3 c.moved_back-place.result (λ more. absurd (omega (arith, more, c.if-coordinate-lengths.false))) (rw (to_z-of_z w64 (slice_index_or c.args.strides.now k (pos 0)) fits) at c.moved_back-place.ensures),
    )
