use Rattle.std.proofs.Common.{refl, sym, arith}
use Rattle.nd_picture.proofs.RowwiseSteps.{crop_after}
use Rattle.nd_picture.proofs.steps_on_row_strips.crop_strip.Goals as goal

pub returns : goal.returns
returns c =
    crop_after c.args.strip.first c.row_count-count.result c.args.top c.args.left c.args.height c.args.width c.min-from.result c.min-to.result c.min-skipped.result
    (omega (arith, c.min-from.ensures, c.saturating_sub.ensures)) (omega (arith, c.min-to.ensures, c.saturating_sub-2.ensures)) (omega (arith, c.min-skipped.ensures, c.saturating_sub-3.ensures))
    c.args.strip _ refl (sym c.row_count-count.ensures) refl c.crop.ensures c.requires
