use Rattle.nd_layout.proofs.NamesFromOtherCrates.{◌≡◌, ◌+◌, ◌∙◌, length, ap, sym}
use Rattle.nd_layout.proofs.growing_lemmas.FreshStorageAxisOrder.{ordered_in_front, ordered_in_reverse}
use Rattle.nd_layout.proofs.layout.Layout.growing_order.Goals as goal

pub returns-then-axis-count : goal.returns-then-axis-count
returns-then-axis-count g c =
    let self = c.args.self.now in
    let ns = g.D.Dimension.lengths self.dim in
    let ss = g.T.StrideList.strides_of self.strides in
    let last : c.args.axis + 1 ≡ length ns = c.if-axis-count.true ∙ (c.ndim-count.ensures.value ∙ ap length c.copied-order.ensures.lengths) in
    record {
      order = rw (c.reverse_axes.ensures.offset, c.reverse_axes.ensures.lengths, c.reverse_axes.ensures.strides, c.copied-order.ensures.offset, c.copied-order.ensures.lengths, c.copied-order.ensures.strides)
          (ordered_in_reverse ns ss c.args.axis self.offset self.as_many c.requires last);
    }

pub returns : goal.returns
returns g c =
    let self = c.args.self.now in
    let ns = g.D.Dimension.lengths self.dim in
    let ss = g.T.StrideList.strides_of self.strides in
    let count = c.ndim-count.ensures.value ∙ ap length c.copied-order.ensures.lengths in
    record {
      order = rw (c.move_to_front.ensures.offset, c.move_to_front.ensures.lengths, c.move_to_front.ensures.strides, c.copied-order.ensures.offset, c.copied-order.ensures.lengths, c.copied-order.ensures.strides)
          (ordered_in_front ns ss c.args.axis self.offset self.as_many c.requires (λ last. c.if-axis-count.false (last ∙ sym count)));
    }
