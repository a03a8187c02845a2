use Rattle.std.proofs.Common.{◌+◌, ◌-◌, arith}
use Rattle.std.proofs.lemmas.Grind.{common_steps}
use Rattle.nd_array_core.specs.ConcatenationAndSplit.{row_major_elements}
use Rattle.nd_array_core.specs.ArrayMeaning.{meaning_of}
use Rattle.nd_array_core.specs.along.LanesOfLastAxis.{lane_length}
use Rattle.nd_iter.specs.ElementsLeftInIteration.{first_rank, rank_after}
use Rattle.nd_iter.proofs.LaneElementsTaken.{first_left}
use Rattle.nd_iter.proofs.elements_left.Ends.first_in.Goals as goal

pub returns-clause-first : goal.returns-clause-first
returns-clause-first g c =
    let old = c.args.self.now in
    let m = meaning_of c.args.array.now in
    let ends = c.requires.ends in
    let between = ends.front_first in
    let none = c.requires.ranks.0 in
    let near = c.requires.ranks.1 in
    first_left (row_major_elements m) (first_rank old) (rank_after old) old.front c.listed_in.result.now c.listed_in.ensures (omega (arith, between, none, near, c.if-self.false)) (omega (arith, none)) (old.front + 1 - lane_length old.ahead) (omega (arith, none))

pub returns-clause-ends : goal.returns-clause-ends
returns-clause-ends g c = grind (arith, common_steps)

pub returns-then-self-clause-first : goal.returns-then-self-clause-first
returns-then-self-clause-first g c = grind (arith, common_steps)
