use Rattle.nd_layout.proofs.NamesFromOtherCrates.{refl, arith}
use Rattle.nd_layout.proofs.spans_and_overlaps.separated.Goals as goal
use Rattle.nd_layout.proofs.AxisChange.{on_axis}

pub returns : goal.returns
returns c = (λ yes k long. c.loop-axis.invariant k (let on = on_axis c.args.lengths.now k long in let end = c.loop-axis-test.false in omega (arith, on, end)) long, λ apart. refl)
