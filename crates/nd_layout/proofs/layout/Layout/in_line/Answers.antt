use Rattle.nd_layout.proofs.NamesFromOtherCrates.{◌<◌, length, arith}
use Rattle.nd_layout.proofs.SizesOfChangedAxes.{size-le-product}
use Rattle.nd_layout.proofs.order_lemmas.RunAsOneLane.{line_order, line_reach, line_checked, line_spread}
use Rattle.nd_layout.proofs.layout.Layout.in_line.Goals as goal

pub stretch_last-requires-clause-fits : goal.stretch_last-requires-clause-fits
stretch_last-requires-clause-fits g c = let old = c.args.self.now in let le = size-le-product (g.D.Dimension.lengths old.dim) in omega (arith, le, old.checked, c.size.ensures)

pub returns-clause-order : goal.returns-clause-order
returns-clause-order g c =
    let old = c.args.self.now in
    let axes : 0 < length (g.D.Dimension.lengths c.stretch_last.new.dim) = omega (arith, c.stretch_last.ensures.as_long, c.requires.axes) in
    let lane = rw c.size.ensures at c.stretch_last.ensures.lane in
    rw c.lowest_place.ensures (line_order old.offset (g.D.Dimension.lengths old.dim) (g.T.StrideList.strides_of old.strides) old.as_many old.reach c.requires.some c.requires.run _ _ c.stretch_last.ensures.as_many axes lane)

pub invariant_of-result : goal.invariant_of-result
invariant_of-result g c =
    let old = c.args.self.now in
    let axes : 0 < length (g.D.Dimension.lengths c.stretch_last.new.dim) = omega (arith, c.stretch_last.ensures.as_long, c.requires.axes) in
    let lane = rw c.size.ensures at c.stretch_last.ensures.lane in
    let ns = g.D.Dimension.lengths old.dim in
    let ss = g.T.StrideList.strides_of old.strides in
    record {
      as_many = c.stretch_last.ensures.as_many;
      spread = line_spread old.offset ns ss old.as_many old.reach c.requires.some c.requires.run _ _ c.stretch_last.ensures.as_many axes lane old.checked;
      checked = line_checked old.offset ns ss old.as_many old.reach c.requires.some c.requires.run _ _ c.stretch_last.ensures.as_many axes lane old.checked;
      reach = rw c.lowest_place.ensures (line_reach old.offset ns ss old.as_many old.reach c.requires.some c.requires.run _ _ c.stretch_last.ensures.as_many axes lane);
    }
