use Rattle.std.proofs.Common.{◌∙◌, sym}
use Rattle.nd_text.proofs.PrintingInTurn.{puts_then}
use Rattle.nd_picture_text.proofs.RasterSamples.{grey_maxval}
use Rattle.nd_picture_text.proofs.writer.put_maxval.Goals as goal

pub returns : goal.returns
returns g c = rw (grey_maxval c.args.header (sym c.is_bitmap.ensures ∙ c.if-is_bitmap.false)) (puts_then c.put_number.ensures c.put.ensures)
