use Rattle.std.proofs.Common.{subst}
use Rattle.nd_array_core.specs.ArrayMeaning.{meaning_of}
use Rattle.nd_text.specs.BufferedPrinting.{Puts}
use Rattle.nd_picture_text.specs.ImageFormatsAndHeaders.{pixmap_of}
use Rattle.nd_picture.proofs.ImageRowByRow.{rows_listed, rows_written}
use Rattle.nd_picture.proofs.image_row_by_row.put_made.Goals as goal

pub returns-clause-put : goal.returns-clause-put
returns-clause-put g c =
    let image = pixmap_of c.args.image in
    let ys = c.samples_in.result.now in
    let text = rows_written c.args.steps.now c.args.first c.row_count-count.result image (meaning_of c.in_ok-made.made) c.args.after c.with_rows.result ys c.requires.rows c.in_ok-made.ensures.rows c.row_count-count.ensures c.with_rows.ensures in (
      ys,
      rows_listed c.args.steps.now c.args.first image _ ys c.in_ok-made.ensures.rows c.samples_in.ensures.samples,
      subst (Puts g.W.Write.contents c.args.output.now c.args.page.now c.put_raster.new.output c.put_raster.new.page) text c.put_raster.ensures,
    )
