use Rattle.std.proofs.Common.{◌≡◌, ◌∙◌, ◌+◌, ◌-◌, take, drop, ap, arith}
use Rattle.std.specs.List.{flat_map}
use Rattle.nd_picture_text.specs.ImageWriting.{both_bytes}
use Rattle.nd_picture_text.proofs.RasterSamples.{all_put, piece_put}
use Rattle.nd_picture_text.proofs.writer.put_wide.Goals as goal

pub loop-done-preserved : goal.loop-done-preserved
loop-done-preserved g c =
    let long : c.loop-done.done + c.min.result - c.loop-done.done ≡ c.min.result = omega arith in
    let piece = c.fill_both.ensures.bytes ∙ ap (λ n. flat_map both_bytes (take n (drop c.loop-done.done c.args.samples.now))) long in
    record {
      put = piece_put both_bytes c.args.samples.now c.loop-done.done c.min.result _ c.loop-done.invariant.put piece c.put.ensures;
      within = omega arith;
    }

pub returns : goal.returns
returns g c = all_put both_bytes c.args.samples.now c.loop-done.done c.loop-done-test.false c.loop-done.invariant.put
