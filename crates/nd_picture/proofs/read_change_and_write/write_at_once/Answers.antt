use Rattle.nd_picture_text.specs.ImageFormatsAndHeaders.{pixmap_of}
use Rattle.nd_picture.specs.ImageOfArray.{drawn_image}
use Rattle.nd_picture.proofs.OutcomeOfFaultyInput.{unloaded_writes, refused_writes, changed_writes, changes_good}
use Rattle.nd_picture.proofs.read_change_and_write.write_at_once.Goals as goal

pub returns-in-Err-clause-fault : goal.returns-in-Err-clause-fault
returns-in-Err-clause-fault g c = unloaded_writes c.args.steps.now g.W.Write.contents c.args.output.now c.args.output.now _ c.in-Err.fault c.in-Err.ensures.image

pub returns-in-Ok-change-clause-written : goal.returns-in-Ok-change-clause-written
returns-in-Ok-change-clause-written g c =
    changed_writes c.args.steps.now g.W.Write.contents c.args.output.now c.show.new.output _ (pixmap_of c.in-Ok.image) (drawn_image c.in-Ok-change.drawn) c.in-Ok-change.ensures.changed c.in-Ok.ensures.image c.show.ensures.text c.show.ensures.flushed

pub returns-in-Err-change-clause-fault : goal.returns-in-Err-change-clause-fault
returns-in-Err-change-clause-fault g c = refused_writes c.args.steps.now g.W.Write.contents c.args.output.now c.args.output.now _ (pixmap_of c.in-Ok.image) c.in-Err-change.fault c.in-Err-change.ensures.changed c.in-Ok.ensures.image

pub returns-in-Err-change-clause-steps : goal.returns-in-Err-change-clause-steps
returns-in-Err-change-clause-steps g c = changes_good (Unit {0}) c.args.steps.now (pixmap_of c.in-Ok.image) c.in-Err-change.fault c.in-Err-change.ensures.changed
