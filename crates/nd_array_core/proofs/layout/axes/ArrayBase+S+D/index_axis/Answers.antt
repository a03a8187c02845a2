use Rattle.nd_array_core.proofs.NamesFromOtherCrates.{remove, indexed_shape, indexed_index}
use Rattle.nd_array_core.proofs.layout_lemmas.PartOfWholeView.{shown_through}
use Rattle.nd_array_core.proofs.layout.axes.ArrayBase+S+D.index_axis.Goals as goal

pub index_axis_move-requires-clause-axis : goal.index_axis_move-requires-clause-axis
index_axis_move-requires-clause-axis g c = rw c.view.ensures.whole.0 c.requires.axis

pub index_axis_move-requires-clause-within : goal.index_axis_move-requires-clause-within
index_axis_move-requires-clause-within g c = rw c.view.ensures.whole.0 c.requires.within

pub returns : goal.returns
returns g c =
    let axis = c.args.axis.0 in record {
      part = shown_through (λ ns ss. record { part_shape = indexed_shape ns axis; part_strides = remove ss axis; index_named = indexed_index axis c.args.index }) c.view.ensures.whole c.index_axis_move.ensures.part.0;
    }
