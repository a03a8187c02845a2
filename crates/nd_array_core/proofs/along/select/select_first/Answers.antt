use Rattle.nd_array_core.specs.ArrayMeaning.{shape_of, element_at, storage_of}
use Rattle.nd_array_core.proofs.NamesFromOtherCrates.{stored_list}
use Rattle.nd_array_core.proofs.along_lemmas.SelectedCoordinates.{ordered_selected}
use Rattle.nd_array_core.proofs.along.select.select_first.Goals as goal

pub returns-clause-elements : goal.returns-clause-elements
returns-clause-elements g c =
    let array = c.args.array.now in
    ordered_selected (shape_of array) (g.D.Dimension.lengths c.raw_dim-dim.result) (g.D.Dimension.lengths c.set_length.new.self) (element_at array) (element_at c.of_items.result)
    c.args.indices.now c.in_ok-items.items.items (stored_list (storage_of c.of_items.result))
    c.requires.axes c.raw_dim-dim.ensures c.set_length.ensures c.of_items.ensures.stored c.of_items.ensures.owns.4 c.in_ok-items.ensures.items
