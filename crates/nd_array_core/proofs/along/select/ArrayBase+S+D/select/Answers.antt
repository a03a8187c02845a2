use Rattle.nd_array_core.proofs.NamesFromOtherCrates.{on_err_from}
use Rattle.nd_array_core.specs.ArrayMeaning.{shape_of, element_at}
use Rattle.nd_array_core.proofs.along_lemmas.SelectedCoordinates.{selected_by_turns, turned_shape_checked, turned_is_some, selected_shape_back}
use Rattle.nd_array_core.proofs.along.select.ArrayBase+S+D.select.Goals as goal

pub select_first-requires-clause-checked : goal.select_first-requires-clause-checked
select_first-requires-clause-checked g c =
    turned_shape_checked c.args.axis.0 (shape_of c.args.self.now) (shape_of c.view-turned.result) (shape_of c.swap_axes.new.self) c.args.indices.now c.requires.axis c.view-turned.ensures.whole.0 c.swap_axes.ensures.part.0.0 c.requires.checked

pub returns-clause-shape : goal.returns-clause-shape
returns-clause-shape g c =
    selected_shape_back c.args.axis.0 (shape_of c.args.self.now) (shape_of c.view-turned.result) (shape_of c.swap_axes.new.self) (shape_of c.in_ok-selected.selected) (shape_of c.swap_axes-2.new.self) c.args.indices.now
    c.requires.axis c.view-turned.ensures.whole.0 c.swap_axes.ensures.part.0.0 c.in_ok-selected.ensures.shape c.swap_axes-2.ensures.part.0.0

pub returns-clause-elements : goal.returns-clause-elements
returns-clause-elements g c =
    selected_by_turns c.args.axis.0 (shape_of c.args.self.now) c.args.indices.now c.requires.axis c.requires.coordinates (element_at c.args.self.now)
    (shape_of c.view-turned.result) (shape_of c.swap_axes.new.self) (shape_of c.in_ok-selected.selected)
    (element_at c.view-turned.result) (element_at c.swap_axes.new.self) (element_at c.in_ok-selected.selected) (element_at c.swap_axes-2.new.self)
    c.view-turned.ensures.whole.0 c.view-turned.ensures.whole.2 c.swap_axes.ensures.part.0.0 c.swap_axes.ensures.part.0.2
    c.in_ok-selected.ensures.shape c.in_ok-selected.ensures.elements c.swap_axes-2.ensures.part.0.2

pub returns-in_err-selected-clause-refused : goal.returns-in_err-selected-clause-refused
returns-in_err-selected-clause-refused g c =
    on_err_from _ c.from_residual.result
    (turned_is_some c.args.axis.0 (shape_of c.args.self.now) (shape_of c.view-turned.result) (shape_of c.swap_axes.new.self) c.args.indices.now c.requires.axis c.view-turned.ensures.whole.0 c.swap_axes.ensures.part.0.0 c.in_err-selected.ensures.refused)
