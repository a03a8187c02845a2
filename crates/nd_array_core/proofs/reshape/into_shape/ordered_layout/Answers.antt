use Rattle.nd_array_core.proofs.reshape_lemmas.IndexesAfterReshape.{ordered_seen, ordered_valid, ordered_apart}
use Rattle.nd_array_core.proofs.reshape.into_shape.ordered_layout.Goals as goal

pub strided-requires : goal.strided-requires
strided-requires g c =
    record {
      valid = rw c.strides_in-strides.ensures (ordered_valid c.args.order c.args.layout.now.offset (g.D.Dimension.lengths c.args.layout.now.dim) (g.D.Strides.StrideList.strides_of c.args.layout.now.strides) (g.E.Dimension.lengths c.args.dim) c.requires.shape c.requires.order c.args.layout.now.reach);
    }

pub returns-clause-seen : goal.returns-clause-seen
returns-clause-seen g c =
    rw (c.strided.ensures.offset, c.strided.ensures.lengths, c.strided.ensures.strides, c.strides_in-strides.ensures)
    (ordered_seen c.args.order c.args.layout.now.offset (g.D.Dimension.lengths c.args.layout.now.dim) (g.D.Strides.StrideList.strides_of c.args.layout.now.strides) (g.E.Dimension.lengths c.args.dim) c.requires.shape c.requires.order)

pub returns-clause-separated : goal.returns-clause-separated
returns-clause-separated g c =
    rw (c.strided.ensures.lengths, c.strided.ensures.strides, c.strides_in-strides.ensures) (ordered_apart c.args.order (g.E.Dimension.lengths c.args.dim) c.requires.shape.0)
