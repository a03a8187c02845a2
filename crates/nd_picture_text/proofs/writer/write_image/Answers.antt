use Rattle.nd_text.proofs.PrintingInTurn.{all_taken}
use Rattle.nd_picture_text.proofs.writer.write_image.Goals as goal

pub returns-clause-text : goal.returns-clause-text
returns-clause-text g c = all_taken c.new-page.ensures c.put_image.ensures c.finish.ensures.text
