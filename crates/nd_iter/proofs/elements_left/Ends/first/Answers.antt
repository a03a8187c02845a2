use Rattle.std.proofs.Common.{◌≡◌, ◌+◌, ◌-◌, ◌∷◌, ap, sym, ◌∙◌, arith}
use Rattle.std.proofs.lemmas.Grind.{common_steps}
use Rattle.nd_array_core.specs.ArrayMeaning.{meaning_of}
use Rattle.nd_array_core.specs.along.LanesOfLastAxis.{lane_length}
use Rattle.nd_iter.specs.ElementsLeftInIteration.{first_rank, rank_after}
use Rattle.nd_iter.specs.IteratedElements.{elements_left}
use Rattle.nd_iter.proofs.LaneElementsTaken.{first_of_lane}
use Rattle.nd_iter.proofs.elements_left.Ends.first.Goals as goal

pub returns-then-len-gt0-clause-first : goal.returns-then-len-gt0-clause-first
returns-then-len-gt0-clause-first g c =
    let mid = c.fill_ahead.new.self in
    let m = meaning_of c.args.array.now in
    let ends = c.fill_ahead.ensures.ends in
    let before = ends.ahead_fits in
    let between = ends.front_first in
    let shorter = c.take_first.ensures.length in
    sym c.fill_ahead.ensures.same
    ∙ first_of_lane m mid.ahead (first_rank mid) ends.lists_ahead 0 (omega (arith, shorter)) c.take_first.result.now c.take_first.ensures.element (first_rank mid) (rank_after mid) (omega (arith, before, between, shorter)) (omega arith)
    (mid.front - lane_length c.take_first.new.self) (omega (arith, before, shorter))

pub returns-then-len-gt0-2-clause-first : goal.returns-then-len-gt0-2-clause-first
returns-then-len-gt0-2-clause-first g c =
    let mid = c.fill_ahead.new.self in
    let m = meaning_of c.args.array.now in
    let ends = c.fill_ahead.ensures.ends in
    let none : lane_length mid.ahead ≡ 0 = let is = c.len.ensures in omega (arith, is, c.if-len-gt0.false) in
    let met = c.fill_ahead.ensures.filled none in
    let some = c.len-2.ensures in
    let taken = c.take_first-then-len-gt0-2 in
    let shorter = taken.ensures.length in
    let next = mid.front + 1 - lane_length mid.ahead in
    let same : rank_after mid ≡ mid.back + 1 + lane_length taken.new.self = omega (arith, shorter) in
    sym c.fill_ahead.ensures.same
    ∙ first_of_lane m mid.after mid.back ends.lists_after 0 (omega (arith, some, c.if-len-gt0-2.true)) taken.result.now taken.ensures.element (first_rank mid) (rank_after mid)
    (omega (arith, met, none, some, c.if-len-gt0-2.true)) (omega (arith, met, none)) next (omega (arith, none))
    ∙ ap (λ to. taken.result.now ∷ elements_left m next to) same

pub returns-then-len-gt0-2-clause-ends : goal.returns-then-len-gt0-2-clause-ends
returns-then-len-gt0-2-clause-ends g c = grind (arith, common_steps)

pub returns-clause-first : goal.returns-clause-first
returns-clause-first g c = grind (arith, common_steps)
