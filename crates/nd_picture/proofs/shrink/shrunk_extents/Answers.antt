use Rattle.std.proofs.Common.{◌∙◌}
use Rattle.nd_picture.proofs.BlockMeans.{ceiling_is, shrunk_checked}
use Rattle.nd_picture.proofs.shrink.shrunk_extents.Goals as goal

pub returns-clause-checked : goal.returns-clause-checked
returns-clause-checked c =
    shrunk_checked c.extents-rows.result.0 c.extents-rows.result.1 c.extents-rows.result.2 c.args.factor _ _ c.requires.some
    (c.div_ceil.ensures ∙ ceiling_is c.extents-rows.result.0 c.args.factor c.requires.some) (c.div_ceil-2.ensures ∙ ceiling_is c.extents-rows.result.1 c.args.factor c.requires.some) c.extents-rows.ensures.checked
