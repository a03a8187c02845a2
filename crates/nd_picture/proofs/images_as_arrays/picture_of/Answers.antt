use Rattle.nd_picture_text.specs.ImageFormatsAndHeaders.{pixmap_of}
use Rattle.nd_picture.specs.PictureSampleLists.{picture_in}
use Rattle.nd_picture.proofs.ImageLimitsThroughSteps.{picture_fits}
use Rattle.nd_picture.proofs.images_as_arrays.picture_of.Goals as goal

pub returns-clause-fits : goal.returns-clause-fits
returns-clause-fits c = (c.requires.header, picture_in (pixmap_of c.args.image), c.array_of.ensures, picture_fits (pixmap_of c.args.image) c.requires)
