use Rattle.std.proofs.Common.{append-nil, get_or, refl, sym}
use Rattle.nd_picture_text.specs.ImageWriting.{bit_line}
use Rattle.nd_text.proofs.PrintingInTurn.{puts_item, puts_nothing}
use Rattle.nd_picture_text.proofs.RasterSamples.{all_put}
use Rattle.nd_picture_text.proofs.writer.put_bits.Goals as goal

pub loop-sample-preserved : goal.loop-sample-preserved
loop-sample-preserved g c =
    let x = get_or c.args.samples.now c.loop-sample.sample-index 0 in
    let line = rw c.bit_line.ensures at c.put.ensures in
    puts_item bit_line c.args.samples.now c.loop-sample.sample-index 0 x c.loop-sample-test.true refl (sym (append-nil (bit_line x))) c.loop-sample.invariant line (puts_nothing c.put.new.out c.put.new.page)

pub returns : goal.returns
returns g c = all_put bit_line c.args.samples.now c.loop-sample.sample-index c.loop-sample-test.false c.loop-sample.invariant
