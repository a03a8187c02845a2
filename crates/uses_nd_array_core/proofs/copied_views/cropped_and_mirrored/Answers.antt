use Rattle.std.proofs.Common.{rules, arith}
use Rattle.nd_array_core.proofs.AxesOfDimensionTypes.{length_short, rows_and_columns}
use Rattle.uses_nd_array_core.proofs.CropFlipMirrorViews.{rectangle_seen, mirrored_seen, copied_seen}
use Rattle.uses_nd_array_core.proofs.copied_views.cropped_and_mirrored.Goals as goal

pub overflow_add-top : goal.overflow_add-top
overflow_add-top g c = grind (arith, length_short)

pub overflow_add-left : goal.overflow_add-left
overflow_add-left g c = grind (arith, length_short)

pub returns : goal.returns
returns g c =
    let image = c.args.image.now in
    let part = c.slice-part.result in
    let seen = rectangle_seen image part c.args.top c.args.left c.args.height c.args.width c.s.result.elements.now c.slice-part.ensures.part (search rules) (rows_and_columns image) c.requires.rows c.requires.columns in
    let turned = mirrored_seen part c.invert_axis.new.self _ seen c.invert_axis.ensures.part.0 in
    copied_seen c.invert_axis.new.self _ _ turned c.in_ok-copy.ensures.shape c.in_ok-copy.ensures.elements
