use Rattle.std.proofs.Common.{rules}
use Rattle.nd_array_core.specs.ArrayMeaning.{meaning_of}
use Rattle.nd_picture.proofs.PictureChangesOnArrays.{mean_of, means_shown}
use Rattle.nd_picture.proofs.blur.blur.Goals as goal

pub returns : goal.returns
returns c = λ p shows.
    let values = c.in_ok-means.ensures.alike (mean_of p) (λ x y f inside call. search rules) in
    means_shown (meaning_of c.args.picture.now) (meaning_of c.in_ok-means.means) p _ c.extents-rows.ensures.shape shows (search rules) values
