use Rattle.nd_layout.proofs.NamesFromOtherCrates.{◌≡◌, ◌+◌, arith, ap, ◌∙◌}
use Rattle.nd_layout.specs.RowMajorWalk.{place_at_rank}
use Rattle.nd_layout.proofs.walk.places_in_turn.PlacesInTurn.of_axes.Goals as goal

pub returns-in-Some-clause-given : goal.returns-in-Some-clause-given
returns-in-Some-clause-given c =
    let same = c.in-Some.ensures in
    record {
      from = omega arith;
      upto = omega arith;
      within = omega (arith, same.count);
      places = λ k under. let all : k ≡ 0 + k = omega arith in same.place k (omega (arith, under, same.count)) ∙ ap (place_at_rank c.args.first c.args.lengths.now c.args.strides.now) all;
    }
