use Rattle.nd_array_core.specs.ArrayMeaning.{meaning_of}
use Rattle.nd_picture.proofs.PictureChangesOnArrays.{columns_cut}
use Rattle.nd_picture.proofs.steps_moving_pixels.columns_from.Goals as goal

pub returns : goal.returns
returns c = λ p shows.
    let part = c.slice_axis_inplace.ensures.part in
    columns_cut (meaning_of c.args.picture) (meaning_of c.slice_axis_inplace.new.self) p c.args.left c.args.width shows c.requires c.between.result c.between.ensures part.0.0 part.0.2
