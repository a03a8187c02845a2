use Rattle.std.proofs.Common.{◌<◌, arith, sym}
use Rattle.nd_picture_text.proofs.RasterSamples.{samples_pass, sample_takes, size_more}
use Rattle.nd_picture_text.proofs.raster_samples.short_stop.Goals as goal

pub loop-missing-preserved : goal.loop-missing-preserved
loop-missing-preserved c =
    let next = sym c.in-Ok.ensures.value in
    let some : 0 < c.loop-missing.missing = omega arith in
    let takes = sample_takes _ _ _ _ c.requires.raw next in
    let size = size_more c.args.header.maxval c.loop-missing.missing some in
    record {
      stops = λ stop less. c.loop-missing.invariant.stops stop (samples_pass _ _ _ _ _ stop (omega arith) next less);
      short = omega (arith, takes, size, c.loop-missing.invariant.short);
    }
