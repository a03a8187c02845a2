use Rattle.nd_picture.specs.PictureChanges.{picture_of_every_row}
use Rattle.nd_picture.proofs.steps_moving_pixels.scale_down.Goals as goal

pub returns : goal.returns
returns c = λ p shows. c.every_column.ensures (picture_of_every_row c.args.factor p) (c.every_row.ensures p shows)
