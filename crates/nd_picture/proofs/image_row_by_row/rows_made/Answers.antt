use Rattle.std.proofs.Common.{refl}
use Rattle.nd_array_core.specs.ArrayMeaning.{meaning_of}
use Rattle.nd_picture_text.specs.ImageFormatsAndHeaders.{pixmap_of}
use Rattle.nd_picture.specs.declared.steps_on_row_strips.Strip.{Strip}
use Rattle.nd_picture.proofs.ImageRowByRow.{strip_meets_all, strip_shows}
use Rattle.nd_picture.proofs.image_row_by_row.rows_made.Goals as goal

pub strip_after_each-requires : goal.strip_after_each-requires
strip_after_each-requires c =
    let strip : Strip = record { first = c.args.first; rows = c.picture_of.result } in
    strip_meets_all c.args.steps.now c.args.first (pixmap_of c.args.image) strip refl c.picture_of.ensures.shown c.requires.rows

pub returns-clause-rows : goal.returns-clause-rows
returns-clause-rows c =
    let strip : Strip = record { first = c.args.first; rows = c.picture_of.result } in
    strip_shows c.args.steps.now c.args.first (pixmap_of c.args.image) strip c.in_ok-made.made (meaning_of c.in_ok-laid.laid) refl c.picture_of.ensures.shown c.in_ok-made.ensures c.in_ok-laid.ensures.shown
