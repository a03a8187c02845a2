use Rattle.std.proofs.Common.{arith}
use Rattle.nd_array_core.specs.ArrayMeaning.{meaning_of}
use Rattle.nd_array_core.proofs.AxesOfDimensionTypes.{number_of_axes}
use Rattle.nd_picture.proofs.PictureChangesOnArrays.{rows_shown}
use Rattle.nd_picture.proofs.steps_moving_pixels.every_row.Goals as goal

pub returns : goal.returns
returns c = λ p shows.
    let part = c.slice_axis_inplace.ensures.part in
    rows_shown (meaning_of c.args.picture) (meaning_of c.slice_axis_inplace.new.self) p c.args.factor c.requires.some shows c.every.result c.every.ensures part.0.0 part.0.2

pub slice_axis_inplace-requires-clause-axis : goal.slice_axis_inplace-requires-clause-axis
slice_axis_inplace-requires-clause-axis c = omega (arith, number_of_axes c.args.picture)
