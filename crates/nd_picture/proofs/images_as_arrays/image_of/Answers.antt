use Rattle.std.proofs.Common.{refl}
use Rattle.nd_array_core.specs.ArrayMeaning.{meaning_of}
use Rattle.nd_picture.proofs.ImageLimitsThroughSteps.{image_whole}
use Rattle.nd_picture.proofs.PictureChangesOnArrays.{sides_are}
use Rattle.nd_picture.proofs.images_as_arrays.image_of.Goals as goal

pub returns-clause-image : goal.returns-clause-image
returns-clause-image c = λ p shows.
    let sides = sides_are (meaning_of c.args.picture.now) p _ _ _ c.dim-height.ensures.lengths shows in
    record {
      headed = rw (sides.0, sides.1) refl;
      sampled = c.in_ok-samples.ensures.samples p shows;
    }

pub returns-clause-whole : goal.returns-clause-whole
returns-clause-whole c = λ held.
    let sides = sides_are (meaning_of c.args.picture.now) held.1 _ _ _ c.dim-height.ensures.lengths held.2 in
    image_whole c.args.header held.1 _ held.0 held.3 (record {
      headed = rw (sides.0, sides.1) refl;
      sampled = c.in_ok-samples.ensures.samples held.1 held.2;
    })
