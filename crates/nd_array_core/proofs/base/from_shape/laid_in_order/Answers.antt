use Rattle.nd_array_core.proofs.base_lemmas.ConstructorLayout.{order_laid}
use Rattle.nd_array_core.proofs.base.from_shape.laid_in_order.Goals as goal

pub returns : goal.returns
returns g c = record {
  laid = rw (c.in_order.ensures.offset, c.in_order.ensures.lengths, c.in_order.ensures.strides) (order_laid c.args.order (g.D.Dimension.lengths c.args.dim) c.args._count c.requires.checked c.requires.enough);
}
