use Rattle.nd_layout.proofs.NamesFromOtherCrates.{arith, subst}
use Rattle.nd_layout.specs.RowMajorWalk.{IsMovedOn}
use Rattle.nd_layout.proofs.walk_lemmas.NextIndexOfWalk.{index_there}
use Rattle.nd_layout.proofs.walk.walk_over_indexes.Walk.advance.Goals as goal

pub returns-then-self-gt1-clause-moves : goal.returns-then-self-gt1-clause-moves
returns-then-self-gt1-clause-moves c more =
    let walk = c.args.self.now in
    let at = walk.stands (omega (arith, more)) in
    let ranked = at.ranked in
    subst (λ i. IsMovedOn walk.lengths.now walk.strides.now i walk.place c.advanced_front-self.result)
    (index_there walk.first.value walk.lengths.now walk.strides.now walk.rank walk.place walk.index at)
    (c.advanced_front-self.ensures.moves (omega (arith, more, ranked)))
