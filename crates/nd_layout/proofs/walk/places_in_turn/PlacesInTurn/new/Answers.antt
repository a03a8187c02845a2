use Rattle.nd_layout.proofs.NamesFromOtherCrates.{arith, rules, get_or, pos, w64, FitsSigned, to_z-of_z}
use Rattle.nd_layout.proofs.walk_lemmas.PlacesCutIntoLanes.{ranked_small, ranked_reach, ranked_from}
use Rattle.nd_layout.proofs.walk_lemmas.RunsOfPlaces.{below_if_some, one_lane, one_goes_on}
use Rattle.nd_layout.proofs.walk.places_in_turn.PlacesInTurn.new.Goals as goal

pub invariant_of-result : goal.invariant_of-result
invariant_of-result c =
    let places = c.args.places in
    let ns = places.lengths.now in
    let ss = places.strides.now in
    let n = get_or ns 0 0 in
    let stride = get_or ss 0 (pos 0) in
    let fits : FitsSigned w64 stride = search rules in
    let lane = one_lane places.first ns ss places.as_many c.if-places-eq1.true in
    record {
      few = below_if_some n _ (omega arith) (λ some. ranked_small places.first ns ss 0 places.first n stride (lane some) places.checked);
      from = λ some. ranked_from places.first ns ss 0 places.first n stride (lane some) places.reach;
      reach = rw (to_z-of_z w64 stride fits) (λ k under. ranked_reach places.first ns ss 0 places.first n stride (lane (omega (arith, under))) places.reach k under);
    }

pub returns-then-places-eq1-clause-given : goal.returns-then-places-eq1-clause-given
returns-then-places-eq1-clause-given c =
    let places = c.args.places in
    let ss = places.strides.now in
    let fits : FitsSigned w64 (get_or ss 0 (pos 0)) = search rules in
    rw (to_z-of_z w64 (get_or ss 0 (pos 0)) fits) (one_goes_on places.first places.lengths.now ss places.as_many c.if-places-eq1.true)
