use Rattle.nd_array_core.specs.ArrayMeaning.{shape_of, layout_strides}
use Rattle.nd_array_core.proofs.NamesFromOtherCrates.{ordered_strides}
use Rattle.nd_array_core.proofs.reshape_lemmas.IndexesAfterReshape.{ordered_serves}
use Rattle.nd_array_core.proofs.laws.order_serves.Goals as goal

pub returns : goal.returns
returns g c order ms laid fits =
    (ordered_strides order ms, ordered_serves order (shape_of c.args.array.now) (layout_strides c.args.array.now) ms fits.0 laid)
