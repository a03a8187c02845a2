use Rattle.nd_array_core.proofs.reshape_lemmas.StridesForReshape.{served_step, served_valid}
use Rattle.nd_array_core.proofs.reshape.serving_strides.served_layout.Goals as goal

pub strided-requires : goal.strided-requires
strided-requires g c =
    record {
      valid = served_valid c.args.order c.args.layout.now.offset (g.D.Dimension.lengths c.args.layout.now.dim) (g.D.Strides.StrideList.strides_of c.args.layout.now.strides) (g.E.Dimension.lengths c.args.dim) (g.E.Strides.StrideList.strides_of c.in-Some.strides) c.requires.shape c.in-Some.ensures.served c.args.layout.now.spread c.args.layout.now.reach;
    }

pub returns-in-Some-clause-seen : goal.returns-in-Some-clause-seen
returns-in-Some-clause-seen g c =
    rw (c.strided.ensures.offset, c.strided.ensures.lengths, c.strided.ensures.strides)
    (served_step c.args.order c.args.layout.now.offset (g.D.Dimension.lengths c.args.layout.now.dim) (g.D.Strides.StrideList.strides_of c.args.layout.now.strides) (g.E.Dimension.lengths c.args.dim) (g.E.Strides.StrideList.strides_of c.in-Some.strides) c.requires.shape c.in-Some.ensures.served)
