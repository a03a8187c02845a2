use Rattle.std.proofs.Common.{◌≡◌, ◌+◌, ◌-◌, [], ◌∷◌, ◌++◌, ap, sym, ◌∙◌, arith}
use Rattle.std.proofs.lemmas.Grind.{common_steps}
use Rattle.nd_array_core.specs.ArrayMeaning.{meaning_of}
use Rattle.nd_array_core.specs.along.LanesOfLastAxis.{lane_length}
use Rattle.nd_iter.specs.ElementsLeftInIteration.{first_rank, rank_after}
use Rattle.nd_iter.specs.IteratedElements.{elements_left}
use Rattle.nd_iter.proofs.LaneElementsTaken.{last_of_lane}
use Rattle.nd_iter.proofs.elements_left.Ends.last.Goals as goal

pub returns-then-len-gt0-clause-last : goal.returns-then-len-gt0-clause-last
returns-then-len-gt0-clause-last g c =
    let mid = c.fill_after.new.self in
    let m = meaning_of c.args.array.now in
    let ends = c.fill_after.ensures.ends in
    let before = ends.ahead_fits in
    let between = ends.front_first in
    let shorter = c.take_last.ensures.length in
    sym c.fill_after.ensures.same
    ∙ last_of_lane m mid.after mid.back ends.lists_after (lane_length c.take_last.new.self) (omega (arith, shorter)) c.take_last.result.now c.take_last.ensures.element (first_rank mid) (rank_after mid) (omega (arith, before, between, shorter)) (omega (arith, shorter))
    (mid.back + lane_length c.take_last.new.self) (omega (arith, shorter))

pub returns-then-len-gt0-2-clause-last : goal.returns-then-len-gt0-2-clause-last
returns-then-len-gt0-2-clause-last g c =
    let mid = c.fill_after.new.self in
    let m = meaning_of c.args.array.now in
    let ends = c.fill_after.ensures.ends in
    let before = ends.ahead_fits in
    let none : lane_length mid.after ≡ 0 = let is = c.len.ensures in omega (arith, is, c.if-len-gt0.false) in
    let met = c.fill_after.ensures.filled none in
    let taken = c.take_last-then-len-gt0-2 in
    let rest = taken.new.self in
    let shorter = taken.ensures.length in
    let less = mid.back - 1 + lane_length mid.after in
    let same : first_rank mid ≡ mid.front - 1 - lane_length rest = omega (arith, shorter) in
    sym c.fill_after.ensures.same
    ∙ last_of_lane m mid.ahead (first_rank mid) ends.lists_ahead (lane_length rest) (omega (arith, shorter)) taken.result.now taken.ensures.element (first_rank mid) (rank_after mid)
    (omega (arith, before, met, shorter)) (omega (arith, before, met, none, shorter)) less (omega (arith, before, met, none, shorter))
    ∙ ap (λ from. elements_left m from less ++ taken.result.now ∷ []) same

pub returns-clause-last : goal.returns-clause-last
returns-clause-last g c = grind (arith, common_steps)
