use Rattle.std.proofs.Common.{◌∙◌, ap, sym, subst}
use Rattle.std.specs.List.{remove}
use Rattle.nd_shape_and_slice.specs.ShapesAndIndexOrders.{HasCheckedSize}
use Rattle.nd_array_core.specs.ArrayMeaning.{shape_of}
use Rattle.nd_array_core.proofs.NamesFromOtherCrates.{HasCheckedSize-removed}
use Rattle.nd_numeric.proofs.lanes_folded_together.starts.Goals as goal

pub from_elem-requires-clause-checked : goal.from_elem-requires-clause-checked
from_elem-requires-clause-checked g c =
    let rest = c.remove_axis.ensures ∙ ap (λ ns. remove ns c.args.axis.0) c.raw_dim.ensures in
    subst HasCheckedSize (sym rest) (HasCheckedSize-removed (shape_of c.args.array.now) c.args.axis.0 c.requires.axis c.shape_is_checked.ensures)
