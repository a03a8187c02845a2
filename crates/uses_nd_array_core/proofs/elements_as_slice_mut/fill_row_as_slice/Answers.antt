use Rattle.std.proofs.Common.{sym, ◌∙◌, ◌∷◌, []}
use Rattle.nd_array_core.specs.ArrayMeaning.{shape_of, element_at, place_at}
use Rattle.nd_array_core.specs.ArrayInStorage.{element_placed}
use Rattle.nd_array_core.proofs.AxesOfDimensionTypes.{rows_and_columns}
use Rattle.uses_nd_array_core.proofs.RowAsView.{row_lies, row_shows, row_inside}
use Rattle.uses_nd_array_core.proofs.elements_as_slice_mut.fill_row_as_slice.Goals as goal

pub returns-clause-lies : goal.returns-clause-lies
returns-clause-lies g c =
    let image = c.args.image.now in
    let done = c.with_index_axis_mut.ensures.done in
    let seen = row_lies (shape_of image) (rows_and_columns image) c.args.row done.0.placed_shape done.0.place (place_at image) done.2.same_shape done.2.same_place in
    ((λ yes. seen.0 (done.4.0.0 yes)), (λ lies. done.4.0.1 (seen.1 lies)))

pub returns-clause-filled : goal.returns-clause-filled
returns-clause-filled g c = λ yes column below.
    let image = c.args.image.now in
    let done = c.with_index_axis_mut.ensures.done in
    sym (row_shows (shape_of image) (rows_and_columns image) c.args.row (element_placed done.1) (element_at c.with_index_axis_mut.new.self) column done.3.same_element below)
    ∙ done.4.1 yes (column ∷ []) (row_inside (shape_of image) (rows_and_columns image) c.args.row done.0.placed_shape column done.2.same_shape below)
