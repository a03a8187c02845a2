use Rattle.std.proofs.Common.{◌∙◌, rules, arith, [], ◌∷◌, ap, sym}
use Rattle.std.proofs.lemmas.Result.{on_ok_weaker}
use Rattle.nd_array_core.specs.Prelude.{shape_of, element_at, rows_of, columns_of}
use Rattle.nd_array_core.proofs.AxesOfDimensionTypes.{length_short, rows_and_columns}
use Rattle.uses_nd_array_core.proofs.CropFlipMirrorViews.{same_around, range_fits_shape, shape_of_range, named_in_range, in_range_box, index_in_range}
use Rattle.uses_nd_array_core.proofs.assigned_parts.patch_rectangle.Goals as goal

pub overflow_add-top : goal.overflow_add-top
overflow_add-top g c = grind (arith, length_short)

pub overflow_add-left : goal.overflow_add-left
overflow_add-left g c = grind (arith, length_short)

pub returns-clause-around : goal.returns-clause-around
returns-clause-around g c = same_around c.args.image.now c.assign_named.new.image c.args.top c.args.left (rows_of c.args.patch.now) (columns_of c.args.patch.now) (c.slices-from.result ∷ c.slices-from-2.result ∷ []) c.assign_named.ensures.unnamed (search rules) (rows_and_columns c.args.image.now) c.requires.rows c.requires.columns

pub assign_named-requires-clause-fits : goal.assign_named-requires-clause-fits
assign_named-requires-clause-fits g c = range_fits_shape (shape_of c.args.image.now) c.args.top c.args.left (rows_of c.args.patch.now) (columns_of c.args.patch.now) (c.slices-from.result ∷ c.slices-from-2.result ∷ []) (search rules) (rows_and_columns c.args.image.now) (length_short c.args.image.now 0) (length_short c.args.image.now 1) c.requires.rows c.requires.columns

pub assign_named-requires-clause-same : goal.assign_named-requires-clause-same
assign_named-requires-clause-same g c = rows_and_columns c.args.patch.now ∙ sym (shape_of_range (shape_of c.args.image.now) c.args.top c.args.left (rows_of c.args.patch.now) (columns_of c.args.patch.now) (c.slices-from.result ∷ c.slices-from-2.result ∷ []) (search rules) (rows_and_columns c.args.image.now) (length_short c.args.image.now 0) (length_short c.args.image.now 1) c.requires.rows c.requires.columns)

pub returns-clause-within : goal.returns-clause-within
returns-clause-within g c = on_ok_weaker c.assign_named.result (λ named row column above below after before. named (row ∷ column ∷ []) (in_range_box (shape_of c.args.image.now) c.args.top c.args.left (rows_of c.args.patch.now) (columns_of c.args.patch.now) (c.slices-from.result ∷ c.slices-from-2.result ∷ []) (search rules) (rows_and_columns c.args.image.now) (length_short c.args.image.now 0) (length_short c.args.image.now 1) c.requires.rows c.requires.columns row column below before) (named_in_range (shape_of c.args.image.now) c.args.top c.args.left (rows_of c.args.patch.now) (columns_of c.args.patch.now) (c.slices-from.result ∷ c.slices-from-2.result ∷ []) (search rules) (rows_and_columns c.args.image.now) (length_short c.args.image.now 0) (length_short c.args.image.now 1) c.requires.rows c.requires.columns row column above below after before) ∙ ap (λ i. element_at c.args.patch.now i) (index_in_range (shape_of c.args.image.now) c.args.top c.args.left (rows_of c.args.patch.now) (columns_of c.args.patch.now) (c.slices-from.result ∷ c.slices-from-2.result ∷ []) (search rules) (rows_and_columns c.args.image.now) (length_short c.args.image.now 0) (length_short c.args.image.now 1) c.requires.rows c.requires.columns row column)) c.assign_named.ensures.named
