use Rattle.nd_array_core.specs.base.ConstructorErrorsAndLayout.{is_apart_in}
use Rattle.nd_array_core.proofs.base_lemmas.ConstructorLayout.{strides_laid}
use Rattle.nd_array_core.proofs.base.from_shape.laid_by_strides.Goals as goal

pub returns : goal.returns
returns g c =
    let ns = g.D.Dimension.lengths c.args.dim in
    let ss = g.D.Strides.StrideList.strides_of c.args.strides in
    record {
      laid = rw (c.strided.ensures.offset, c.strided.ensures.lengths, c.strided.ensures.strides) (strides_laid c.args.offset ns ss (is_apart_in c.args.given_in) c.args._count c.requires.from c.requires.enough c.requires.apart);
    }
