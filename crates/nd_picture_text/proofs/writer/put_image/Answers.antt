use Rattle.nd_text.proofs.PrintingInTurn.{puts_then}
use Rattle.nd_picture_text.proofs.writer.put_image.Goals as goal

pub returns : goal.returns
returns g c = puts_then c.put_header.ensures c.put_raster.ensures
