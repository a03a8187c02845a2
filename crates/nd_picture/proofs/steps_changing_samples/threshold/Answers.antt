use Rattle.nd_array_core.specs.ArrayMeaning.{meaning_of}
use Rattle.nd_picture.proofs.PictureChangesOnArrays.{changed_shown}
use Rattle.nd_picture.proofs.steps_changing_samples.threshold.Goals as goal

pub returns : goal.returns
returns c = λ p shows.
    let all = c.all_over.ensures in
    changed_shown (meaning_of c.args.picture) (meaning_of c.all_over.result) _ p all.shape all.samples shows
