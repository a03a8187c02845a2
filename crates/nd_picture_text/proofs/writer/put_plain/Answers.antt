use Rattle.std.proofs.Common.{get_or, refl}
use Rattle.nd_picture_text.specs.ImageWriting.{number_line}
use Rattle.nd_text.proofs.PrintingInTurn.{puts_item}
use Rattle.nd_picture_text.proofs.RasterSamples.{all_put}
use Rattle.nd_picture_text.proofs.writer.put_plain.Goals as goal

pub loop-sample-preserved : goal.loop-sample-preserved
loop-sample-preserved g c =
    let x = get_or c.args.samples.now c.loop-sample.sample-index 0 in
    puts_item number_line c.args.samples.now c.loop-sample.sample-index 0 x c.loop-sample-test.true refl refl c.loop-sample.invariant c.put_number.ensures c.put.ensures

pub returns : goal.returns
returns g c = all_put number_line c.args.samples.now c.loop-sample.sample-index c.loop-sample-test.false c.loop-sample.invariant
