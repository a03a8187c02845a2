use Rattle.nd_layout.proofs.NamesFromOtherCrates.{arith, length, sym, ◌∙◌}
use Rattle.nd_layout.proofs.steps.DiagonalStep.{some_length, diagonal_starts, least_next, least_ends}
use Rattle.nd_layout.proofs.layout.diagonal.len_of_diagonal.Goals as goal

pub loop-k-init : goal.loop-k-init
loop-k-init c = rw c.length_at-least.ensures (diagonal_starts c.args.lengths.now (some_length (length c.args.lengths.now) (sym c.is_empty.ensures ∙ c.if-is_empty.false)))

pub loop-k-preserved : goal.loop-k-preserved
loop-k-preserved c =
    rw (c.smaller-least.ensures, c.length_at.ensures) (least_next c.loop-k.least c.args.lengths.now c.loop-k.k (omega (arith, c.loop-k-test.true)) ∙ c.loop-k.invariant)

pub returns : goal.returns
returns c = sym (least_ends c.loop-k.least c.args.lengths.now c.loop-k.k (omega (arith, c.loop-k-test.false))) ∙ c.loop-k.invariant
