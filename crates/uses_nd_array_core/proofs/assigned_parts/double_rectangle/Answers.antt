use Rattle.std.proofs.Common.{rules, arith, [], ◌∷◌}
use Rattle.nd_array_core.specs.ArrayMeaning.{shape_of}
use Rattle.nd_array_core.proofs.AxesOfDimensionTypes.{length_short, rows_and_columns}
use Rattle.uses_nd_array_core.proofs.CropFlipMirrorViews.{same_around, range_fits_shape}
use Rattle.uses_nd_array_core.proofs.assigned_parts.double_rectangle.Goals as goal

pub overflow_add-top : goal.overflow_add-top
overflow_add-top g c = grind (arith, length_short)

pub overflow_add-left : goal.overflow_add-left
overflow_add-left g c = grind (arith, length_short)

pub returns-clause-around : goal.returns-clause-around
returns-clause-around g c = same_around c.args.image.now c.map_slice.new.self c.args.top c.args.left c.args.height c.args.width (c.slices-from.result ∷ c.slices-from-2.result ∷ []) c.map_slice.ensures.unnamed (search rules) (rows_and_columns c.args.image.now) c.requires.rows c.requires.columns

pub map_slice-requires-clause-fits : goal.map_slice-requires-clause-fits
map_slice-requires-clause-fits g c = range_fits_shape (shape_of c.args.image.now) c.args.top c.args.left c.args.height c.args.width (c.slices-from.result ∷ c.slices-from-2.result ∷ []) (search rules) (rows_and_columns c.args.image.now) (length_short c.args.image.now 0) (length_short c.args.image.now 1) c.requires.rows c.requires.columns
