use Rattle.nd_array_core.proofs.NamesFromOtherCrates.{◌≤◌, vec_capacity}
use Rattle.nd_array_core.specs.ArrayMeaning.{shape_of, element_at}
use Rattle.nd_array_core.specs.along.SelectedCoordinates.{ListsSelected}
use Rattle.nd_array_core.proofs.along.select.selected_items.Given as goal

abbrev pub invariant-loop-nth : goal.invariant-loop-nth
invariant-loop-nth g l =
    ListsSelected (shape_of l.fn.array) (element_at l.fn.array) l.fn.indices l.nth l.items.items
    × (vec_capacity l.fn.room ≤ vec_capacity l.items)
