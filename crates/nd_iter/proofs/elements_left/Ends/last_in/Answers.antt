use Rattle.std.proofs.Common.{◌+◌, ◌-◌, arith}
use Rattle.std.proofs.lemmas.Grind.{common_steps}
use Rattle.nd_array_core.specs.ConcatenationAndSplit.{row_major_elements}
use Rattle.nd_array_core.specs.ArrayMeaning.{meaning_of}
use Rattle.nd_array_core.specs.along.LanesOfLastAxis.{lane_length}
use Rattle.nd_iter.specs.ElementsLeftInIteration.{first_rank, rank_after}
use Rattle.nd_iter.proofs.LaneElementsTaken.{last_left}
use Rattle.nd_iter.proofs.elements_left.Ends.last_in.Goals as goal

pub returns-clause-last : goal.returns-clause-last
returns-clause-last g c =
    let old = c.args.self.now in
    let m = meaning_of c.args.array.now in
    let ends = c.requires.ends in
    let between = ends.front_first in
    let none = c.requires.ranks.0 in
    let near = c.requires.ranks.1 in
    last_left (row_major_elements m) (first_rank old) (rank_after old) (old.back - 1) c.listed_in.result.now c.listed_in.ensures (omega (arith, between, none, near, c.if-self.false)) (omega (arith, near)) (old.back - 1 + lane_length old.after) (omega (arith, between, near, c.if-self.false))

pub returns-clause-ends : goal.returns-clause-ends
returns-clause-ends g c = grind (arith, common_steps)

pub returns-then-self-clause-last : goal.returns-then-self-clause-last
returns-then-self-clause-last g c = grind (arith, common_steps)
