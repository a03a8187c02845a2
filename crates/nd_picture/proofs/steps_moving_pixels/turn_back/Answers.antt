use Rattle.nd_picture.specs.PictureChanges.{picture_transposed}
use Rattle.nd_picture.proofs.steps_moving_pixels.turn_back.Goals as goal

pub returns : goal.returns
returns c = λ p shows. c.flip.ensures (picture_transposed p) (c.transpose.ensures p shows)
