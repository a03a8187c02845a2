use Rattle.nd_array_core.proofs.NamesFromOtherCrates.{◌∙◌, ap, slice_index, IfOk-weaker, on_err_weaker, collapsed_shape, shown_by}
use Rattle.nd_array_core.specs.ArrayMeaning.{meaning_of, shape_of, element_at}
use Rattle.nd_array_core.proofs.along_lemmas.SelectedCoordinates.{selected_more, row_shown, row_is_some, box_has}
use Rattle.nd_array_core.proofs.along.select.selected_row.Goals as goal

pub returns-clause-items : goal.returns-clause-items
unfolding meaning_of
returns-clause-items g c =
    let array = c.args.array.now in
    let row = c.collapse_axis.new.self in
    let whole = c.view-row.ensures.whole in
    let part = c.collapse_axis.ensures.part.0 in
    IfOk-weaker c.listed_after.result _ _
    (λ v put. selected_more (shape_of array) (element_at array) c.args.indices.now c.args.nth c.args.before.items v.items (meaning_of row)
    (part.0 ∙ ap (λ ns. collapsed_shape ns 0) whole.0)
    (row_shown (shape_of array) (shape_of c.view-row.result) (element_at array) (element_at c.view-row.result) (element_at row) (slice_index c.args.indices.now c.args.nth) whole.0 whole.2 part.2)
    (box_has (shown_by row.storage) row.layout.offset (g.D.Dimension.lengths row.layout.dim) (g.D.Strides.StrideList.strides_of row.layout.strides) row.inside)
    put c.requires.so_far)
    c.listed_after.ensures.items

pub returns-clause-refused : goal.returns-clause-refused
returns-clause-refused g c =
    let array = c.args.array.now in
    on_err_weaker c.listed_after.result
    (row_is_some (shape_of array) (shape_of c.collapse_axis.new.self) c.args.indices.now c.args.nth c.requires.axes c.requires.within
    (c.collapse_axis.ensures.part.0.0 ∙ ap (λ ns. collapsed_shape ns 0) c.view-row.ensures.whole.0))
    c.listed_after.ensures.refused
