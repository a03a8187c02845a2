use Rattle.std.proofs.Common.{rules}
use Rattle.nd_array_core.specs.ArrayMeaning.{meaning_of}
use Rattle.nd_picture.specs.PictureChanges.{picture_bordered}
use Rattle.nd_picture.proofs.PictureChangesOnArrays.{sample_of, made_shown, border_sides}
use Rattle.nd_picture.proofs.border.border.Goals as goal

pub returns : goal.returns
returns c = λ p shows.
    let sides = c.in_ok-rows.ensures in
    let values = c.in_ok-samples.ensures.alike (sample_of (picture_bordered c.args.width c.args.value p)) (λ x y f inside call. search rules) in
    made_shown (meaning_of c.in_ok-samples.samples) (picture_bordered c.args.width c.args.value p) _ (border_sides (meaning_of c.args.picture.now) p c.args.width _ _ _ shows sides.rows sides.columns sides.channels) (search rules) values
