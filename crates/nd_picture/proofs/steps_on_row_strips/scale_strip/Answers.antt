use Rattle.std.proofs.Common.{◌∙◌, refl, sym, arith}
use Rattle.nd_picture.proofs.BlockMeans.{ceiling_is}
use Rattle.nd_picture.proofs.RowwiseSteps.{some_kept, scale_after}
use Rattle.nd_picture.proofs.steps_on_row_strips.scale_strip.Goals as goal

pub returns : goal.returns
returns c =
    let some = (some_kept c.args.factor c.requires.3).0 in
    scale_after c.args.strip.first c.row_count-count.result c.args.factor c.div_ceil-from.result c.min-skipped.result some
    (c.div_ceil-from.ensures ∙ ceiling_is c.args.strip.first c.args.factor some) (omega (arith, c.min-skipped.ensures, c.saturating_sub.ensures))
    c.args.strip _ refl (sym c.row_count-count.ensures) refl (λ p shows. c.scale_down.ensures _ (c.rows_from.ensures.shown p shows)) c.requires
