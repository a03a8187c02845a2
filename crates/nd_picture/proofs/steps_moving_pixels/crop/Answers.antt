use Rattle.nd_picture.specs.PictureChanges.{rows_from}
use Rattle.nd_picture.proofs.steps_moving_pixels.crop.Goals as goal

pub returns : goal.returns
returns c = λ p shows. c.columns_from.ensures (rows_from c.args.top c.args.height p) (c.rows_from.ensures.shown p shows)
