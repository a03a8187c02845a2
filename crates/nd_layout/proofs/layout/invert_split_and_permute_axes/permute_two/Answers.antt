use Rattle.nd_layout.proofs.NamesFromOtherCrates.{◌∙◌, arith, sym, length, pos}
use Rattle.nd_layout.proofs.PermutedAxes.{axis_below}
use Rattle.nd_layout.proofs.TwoAxesPermuted.{two_permuted}
use Rattle.nd_layout.proofs.layout.invert_split_and_permute_axes.permute_two.Goals as goal

pub exchange-requires-clause-a : goal.exchange-requires-clause-a
exchange-requires-clause-a g c = omega (arith, c.requires.two, c.requires.each.0)

pub exchange-requires-clause-b : goal.exchange-requires-clause-b
exchange-requires-clause-b g c = axis_below c.args.axes.now (length (g.D.Dimension.lengths c.args.dim.now)) 0 c.requires.each (omega (arith, c.requires.two))

pub returns-clause-lengths : goal.returns-clause-lengths
returns-clause-lengths g c = c.exchange.ensures.lengths ∙ two_permuted 0 c.args.axes.now (g.D.Dimension.lengths c.args.dim.now) c.requires.each c.requires.two

pub returns-clause-strides : goal.returns-clause-strides
returns-clause-strides g c = c.exchange.ensures.strides ∙ two_permuted (pos 0) c.args.axes.now (g.T.StrideList.strides_of c.args.strides.now) (c.requires.each.0 ∙ sym c.requires.as_many, λ a h. c.requires.each.1 a (omega (arith, h, c.requires.as_many))) c.requires.two
