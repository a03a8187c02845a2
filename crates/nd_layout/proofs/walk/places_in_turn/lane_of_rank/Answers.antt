use Rattle.nd_layout.proofs.NamesFromOtherCrates.{◌≡◌, ◌+◌, ◌-◌, ◌%◌, arith, rules, length, get_or, pos, w64, FitsSigned, to_z-of_z, mod_below}
use Rattle.nd_layout.proofs.walk_lemmas.PlacesCutIntoLanes.{ranked_small, ranked_reach, ranked_from}
use Rattle.nd_layout.proofs.walk_lemmas.RunsOfPlaces.{lane_of_none, first_of_none, last_some, lane_of_last, lane_of_first}
use Rattle.nd_layout.proofs.walk.places_in_turn.lane_of_rank.Goals as goal

pub nonzero_rem-result : goal.nonzero_rem-result
nonzero_rem-result c =
    let first = c.args.first in
    let k = length c.args.lengths.now - 1 in
    let last : length c.args.lengths.now ≡ k + 1 = omega (arith, c.if-axes-eq0.false) in
    last_some first c.args.lengths.now c.args.strides.now c.requires.as_many k last c.args.rank c.requires.below

pub overflow_sub-result : goal.overflow_sub-result
overflow_sub-result c =
    let first = c.args.first in
    let k = length c.args.lengths.now - 1 in
    let last : length c.args.lengths.now ≡ k + 1 = omega (arith, c.if-axes-eq0.false) in
    let n = get_or c.args.lengths.now k 0 in
    let under = mod_below c.args.rank n (last_some first c.args.lengths.now c.args.strides.now c.requires.as_many k last c.args.rank c.requires.below) in
    omega (arith, under)

pub invariant_of-result : goal.invariant_of-result
invariant_of-result c =
    let first = c.args.first in
    let ns = c.args.lengths.now in
    let ss = c.args.strides.now in
    let lane = lane_of_none first ns ss c.if-axes-eq0.true (pos 1) c.args.rank first c.requires.below (first_of_none first ns ss c.if-axes-eq0.true c.args.rank) in
    record {
      few = omega arith;
      from = λ some. ranked_from first ns ss c.args.rank first 1 (pos 1) lane c.requires.reach;
      reach = ranked_reach first ns ss c.args.rank first 1 (pos 1) lane c.requires.reach;
    }

pub invariant_of-result-then-rank-eq0 : goal.invariant_of-result-then-rank-eq0
invariant_of-result-then-rank-eq0 c =
    let first = c.args.first in
    let ns = c.args.lengths.now in
    let ss = c.args.strides.now in
    let k = length ns - 1 in
    let last : length ns ≡ k + 1 = omega (arith, c.if-axes-eq0.false) in
    let n = get_or ns k 0 in
    let stride = get_or ss k (pos 0) in
    let fits : FitsSigned w64 stride = search rules in
    let lane = lane_of_first first ns ss c.requires.as_many k last c.args.rank c.requires.below c.if-rank-eq0.true in
    record {
      few = ranked_small first ns ss c.args.rank first n stride lane c.requires.checked;
      from = λ some. ranked_from first ns ss c.args.rank first n stride lane c.requires.reach;
      reach = rw (to_z-of_z w64 stride fits) (ranked_reach first ns ss c.args.rank first n stride lane c.requires.reach);
    }

pub invariant_of-result-2 : goal.invariant_of-result-2
invariant_of-result-2 c =
    let first = c.args.first in
    let ns = c.args.lengths.now in
    let ss = c.args.strides.now in
    let k = length ns - 1 in
    let last : length ns ≡ k + 1 = omega (arith, c.if-axes-eq0.false) in
    let n = get_or ns k 0 in
    let stride = get_or ss k (pos 0) in
    let fits : FitsSigned w64 stride = search rules in
    let place = c.place_of_rank.result in
    let lane = lane_of_last first ns ss c.requires.as_many k last c.args.rank c.requires.below place c.place_of_rank.ensures in
    record {
      few = ranked_small first ns ss c.args.rank place (n - c.args.rank % n) stride lane c.requires.checked;
      from = λ some. ranked_from first ns ss c.args.rank place (n - c.args.rank % n) stride lane c.requires.reach;
      reach = rw (to_z-of_z w64 stride fits) (ranked_reach first ns ss c.args.rank place (n - c.args.rank % n) stride lane c.requires.reach);
    }

pub returns : goal.returns
returns c =
    let first = c.args.first in
    let ns = c.args.lengths.now in
    let ss = c.args.strides.now in
    let k = length ns - 1 in
    let last : length ns ≡ k + 1 = omega (arith, c.if-axes-eq0.false) in
    let fits : FitsSigned w64 (get_or ss k (pos 0)) = search rules in
    rw (to_z-of_z w64 (get_or ss k (pos 0)) fits) (lane_of_last first ns ss c.requires.as_many k last c.args.rank c.requires.below c.place_of_rank.result c.place_of_rank.ensures)

pub returns-then-rank-eq0 : goal.returns-then-rank-eq0
returns-then-rank-eq0 c =
    let first = c.args.first in
    let ns = c.args.lengths.now in
    let ss = c.args.strides.now in
    let k = length ns - 1 in
    let last : length ns ≡ k + 1 = omega (arith, c.if-axes-eq0.false) in
    let fits : FitsSigned w64 (get_or ss k (pos 0)) = search rules in
    rw (to_z-of_z w64 (get_or ss k (pos 0)) fits) (lane_of_first first ns ss c.requires.as_many k last c.args.rank c.requires.below c.if-rank-eq0.true)
