use Rattle.nd_picture.specs.PictureChanges.{picture_flopped}
use Rattle.nd_picture.proofs.steps_moving_pixels.turn_half.Goals as goal

pub returns : goal.returns
returns c = λ p shows. c.flip.ensures (picture_flopped p) (c.flop.ensures p shows)
