use Rattle.std.proofs.Common.{◌≡◌, ◌∙◌, ◌+◌, ◌-◌, take, drop, ap, arith}
use Rattle.std.specs.List.{flat_map}
use Rattle.nd_picture_text.specs.ImageWriting.{low_byte}
use Rattle.nd_picture_text.proofs.RasterSamples.{all_put, piece_put}
use Rattle.nd_picture_text.proofs.writer.put_narrow.Goals as goal

pub loop-done-preserved : goal.loop-done-preserved
loop-done-preserved g c =
    let long : c.loop-done.done + c.min.result - c.loop-done.done ≡ c.min.result = omega arith in
    let piece = c.fill_low.ensures.bytes ∙ ap (λ n. flat_map low_byte (take n (drop c.loop-done.done c.args.samples.now))) long in
    record {
      put = piece_put low_byte c.args.samples.now c.loop-done.done c.min.result _ c.loop-done.invariant.put piece c.put.ensures;
      within = omega arith;
    }

pub returns : goal.returns
returns g c = all_put low_byte c.args.samples.now c.loop-done.done c.loop-done-test.false c.loop-done.invariant.put
