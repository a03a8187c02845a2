use Rattle.std.proofs.Common.{rules}
use Rattle.nd_array_core.specs.ArrayMeaning.{meaning_of}
use Rattle.nd_picture.specs.PictureChanges.{picture_shrunk}
use Rattle.nd_picture.proofs.BlockMeans.{shrunk_sides}
use Rattle.nd_picture.proofs.PictureChangesOnArrays.{sample_of, made_shown}
use Rattle.nd_picture.proofs.shrink.shrink.Goals as goal

pub returns : goal.returns
returns c = λ p shows.
    let sides = c.shrunk_extents-rows.ensures in
    let values = c.in_ok-means.ensures.alike (sample_of (picture_shrunk c.args.factor p)) (λ x y f inside call. search rules) in
    made_shown (meaning_of c.in_ok-means.means) (picture_shrunk c.args.factor p) _ (shrunk_sides (meaning_of c.args.picture.now) p c.args.factor _ _ _ shows sides.rows sides.columns sides.channels) (search rules) values
