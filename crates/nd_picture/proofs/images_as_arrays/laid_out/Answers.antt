use Rattle.nd_array_core.specs.ArrayMeaning.{meaning_of}
use Rattle.nd_picture.proofs.ChannelCopies.{copy_shows}
use Rattle.nd_picture.proofs.images_as_arrays.laid_out.Goals as goal

pub returns-clause-shown : goal.returns-clause-shown
returns-clause-shown c = λ p shows. copy_shows (meaning_of c.args.picture) (meaning_of c.in_ok-laid.laid) p c.in_ok-laid.ensures.shape c.in_ok-laid.ensures.copied shows
