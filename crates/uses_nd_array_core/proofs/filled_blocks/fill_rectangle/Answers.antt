use Rattle.std.proofs.Common.{rules, arith, [], ◌∷◌}
use Rattle.nd_array_core.proofs.AxesOfDimensionTypes.{length_short, rows_and_columns}
use Rattle.uses_nd_array_core.proofs.CropFlipMirrorViews.{same_around}
use Rattle.uses_nd_array_core.proofs.filled_blocks.fill_rectangle.Goals as goal

pub overflow_add-top : goal.overflow_add-top
overflow_add-top g c = grind (arith, length_short)

pub overflow_add-left : goal.overflow_add-left
overflow_add-left g c = grind (arith, length_short)

pub returns-clause-around : goal.returns-clause-around
returns-clause-around g c = same_around c.args.image.now c.fill_named.new.image c.args.top c.args.left c.args.height c.args.width (c.slices-from.result ∷ c.slices-from-2.result ∷ []) c.fill_named.ensures.unnamed (search rules) (rows_and_columns c.args.image.now) c.requires.rows c.requires.columns
