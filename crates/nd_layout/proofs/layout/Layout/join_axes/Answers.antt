use Rattle.nd_layout.proofs.NamesFromOtherCrates.{arith, ◌∙◌, sym}
use Rattle.nd_layout.proofs.order_lemmas.AxisJoins.{joined_reach}
use Rattle.nd_layout.proofs.layout.Layout.join_axes.Goals as goal

pub invariant_of-self : goal.invariant_of-self
invariant_of-self g c =
    let old = c.args.self.now in
    let joined = c.join.ensures.joined in
    record {
      as_many = c.join.ensures.strides ∙ (old.as_many ∙ sym c.join.ensures.lengths);
      spread = omega (arith, joined.span, old.spread);
      checked = c.join.ensures.checked;
      reach = joined_reach old.offset (g.D.Dimension.lengths old.dim) (g.T.StrideList.strides_of old.strides) (g.D.Dimension.lengths c.join.new.dim) (g.T.StrideList.strides_of c.join.new.strides) joined old.reach;
    }
