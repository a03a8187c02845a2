use Rattle.nd_array_core.specs.ArrayMeaning.{meaning_of}
use Rattle.nd_picture.proofs.PictureChangesOnArrays.{columns_shown}
use Rattle.nd_picture.proofs.steps_moving_pixels.every_column.Goals as goal

pub returns : goal.returns
returns c = λ p shows.
    let part = c.slice_axis_inplace.ensures.part in
    columns_shown (meaning_of c.args.picture) (meaning_of c.slice_axis_inplace.new.self) p c.args.factor c.requires.some shows c.every.result c.every.ensures part.0.0 part.0.2
