use Rattle.std.proofs.Common.{rules}
use Rattle.nd_array_core.specs.ArrayMeaning.{meaning_of}
use Rattle.nd_picture.specs.PictureChanges.{light_of}
use Rattle.nd_picture.proofs.PictureChangesOnArrays.{sample_of, made_shown, light_sides}
use Rattle.nd_picture.proofs.gray.lightness_of.Goals as goal

pub returns : goal.returns
returns c = λ p shows.
    let values = c.in_ok-light.ensures.alike (sample_of (light_of c.args.maxval p)) (λ x y f inside call. search rules) in
    made_shown (meaning_of c.in_ok-light.light) (light_of c.args.maxval p) _ (light_sides (meaning_of c.args.picture.now) p _ _ c.light_extents-rows.ensures.shape shows) (search rules) values
