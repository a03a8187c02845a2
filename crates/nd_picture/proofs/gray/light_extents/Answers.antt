use Rattle.std.proofs.Common.{[], ◌∷◌, ◌∙◌, ap}
use Rattle.nd_picture.proofs.PictureChangesOnArrays.{three_channels, one_channel}
use Rattle.nd_picture.proofs.gray.light_extents.Goals as goal

pub returns : goal.returns
returns c =
    let sizes = c.extents-rows.ensures in
    let three = three_channels _ _ _ _ sizes.shape c.requires in
    record {
      shape = sizes.shape ∙ ap (λ k. c.extents-rows.result.0 ∷ c.extents-rows.result.1 ∷ k ∷ []) three;
      checked = one_channel _ _ _ three sizes.checked;
    }
