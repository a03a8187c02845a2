use Rattle.std.proofs.Common.{subst}
use Rattle.nd_picture_text.specs.ImageFormatsAndHeaders.{pixmap_of}
use Rattle.nd_picture.specs.ImageOfArray.{drawn_image}
use Rattle.nd_picture.specs.PictureSampleLists.{picture_in, IsImageOf}
use Rattle.nd_picture.proofs.ImageLimitsThroughSteps.{picture_fits, header_allowed, steps_fit, image_whole}
use Rattle.nd_picture.proofs.read_change_and_write.change.Goals as goal

pub returns-in-Ok-laid_out-clause-changed : goal.returns-in-Ok-laid_out-clause-changed
returns-in-Ok-laid_out-clause-changed c =
    let image = pixmap_of c.args.image in
    let steps = c.args.steps.now in
    let end = c.in-Ok.ensures.ends (picture_in image) c.picture_of.ensures.shown in
    let of = subst (λ h. IsImageOf h end.0 (drawn_image c.with_header.result)) c.header_after.ensures (c.with_header.ensures.image end.0 (c.in-Ok-laid_out.ensures.shown end.0 end.2)) in
    let limits = steps_fit _ 1 steps image.header.kind (picture_in image) end.0 end.1 (picture_fits image c.requires) in
    (end.0, end.1, of, image_whole _ end.0 (drawn_image c.with_header.result) (header_allowed steps image.header c.requires.header) limits of)
