use Rattle.nd_shape_and_slice.proofs.NamesFromOtherCrates.{◌∙◌, sym, arith, below_more, refl}
use Rattle.nd_shape_and_slice.proofs.axis_numbers_and_permutations.counts_each_axis.Goals as goal

pub returns-then-times_in-ne1 : goal.returns-then-times_in-ne1
returns-then-times_in-ne1 c =
    (λ no. cc, λ each. absurd (c.if-times_in-ne1.true (c.times_in.ensures ∙ each c.loop-axis.axis c.loop-axis-test.true)))

pub loop-axis-preserved : goal.loop-axis-preserved
loop-axis-preserved c = below_more _ _ c.loop-axis.invariant (sym c.times_in.ensures ∙ c.if-times_in-ne1.false)

pub returns : goal.returns
returns c = (λ _ a h. c.loop-axis.invariant a (omega arith), λ _. refl)
