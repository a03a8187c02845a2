use Rattle.std.proofs.Common.{Ok, Err, refl}
use Rattle.nd_picture_text.specs.ImageWriting.{image_text}
use Rattle.nd_picture.proofs.program.drive_on.Goals as goal

pub returns-in-Ok-clause-driven : goal.returns-in-Ok-clause-driven
returns-in-Ok-clause-driven g c =
    let made = c.in-Ok.ensures.written in
    (Ok made.0, image_text made.0, made.1, refl, made.2, c.report_write.ensures.told, refl, c.in-Ok.ensures.reads, (made.3, c.report_write.ensures.flushed))

pub returns-in-Err-clause-driven : goal.returns-in-Err-clause-driven
returns-in-Err-clause-driven g c =
    let before = c.in-Err.ensures.fault in
    (Err c.in-Err.fault, before.1, before.0, before.2, before.3, c.report.ensures.text, c.fault_status.ensures, c.in-Err.ensures.reads, (c.report.ensures.flushed, before.4))
