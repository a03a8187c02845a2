use Rattle.nd_array_core.specs.ArrayMeaning.{meaning_of}
use Rattle.nd_picture.proofs.PictureChangesOnArrays.{rows_cut}
use Rattle.nd_picture.proofs.steps_moving_pixels.rows_from.Goals as goal

pub returns-clause-shown : goal.returns-clause-shown
returns-clause-shown c = λ p shows.
    let part = c.slice_axis_inplace.ensures.part in
    rows_cut (meaning_of c.args.picture) (meaning_of c.slice_axis_inplace.new.self) p c.args.top c.args.height shows c.requires c.between.result c.between.ensures part.0.0 part.0.2
