use Rattle.std.proofs.Common.{rules}
use Rattle.nd_array_core.proofs.AxesOfDimensionTypes.{rows_and_columns}
use Rattle.uses_nd_array_core.proofs.CropFlipMirrorViews.{flipped_seen, copied_seen}
use Rattle.uses_nd_array_core.proofs.copied_views.flipped_copy.Goals as goal

pub returns : goal.returns
returns g c =
    let image = c.args.image.now in
    let part = c.slice-part.result in
    let seen = flipped_seen image part c.s.result.elements.now c.slice-part.ensures.part (search rules) (rows_and_columns image) in
    copied_seen part _ _ seen c.in_ok-copy.ensures.shape c.in_ok-copy.ensures.elements
