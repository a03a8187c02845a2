use Rattle.std.proofs.Common.{sym}
use Rattle.nd_picture.proofs.RowwiseSteps.{sides_none, sides_more, sides_end}
use Rattle.nd_picture.proofs.steps_on_row_strips.sides_after.Goals as goal

pub loop-nth-init : goal.loop-nth-init
loop-nth-init c = sides_none c.args.maxval c.args.steps.now c.args.rows c.args.columns c.requires

pub loop-nth-preserved : goal.loop-nth-preserved
loop-nth-preserved c =
    sides_more c.args.maxval c.args.steps.now c.args.rows c.args.columns c.loop-nth.nth c.loop-nth.height c.loop-nth.width _ c.loop-nth-test.true c.loop-nth.invariant (sym c.if-not-fits_sides.ensures) c.rows_made-height.result c.columns_made-width.result
    c.rows_made-height.ensures c.columns_made-width.ensures

pub returns : goal.returns
returns c = sides_end c.args.maxval c.args.steps.now c.args.rows c.args.columns c.loop-nth.nth c.loop-nth.height c.loop-nth.width c.loop-nth-test.false c.loop-nth.invariant
