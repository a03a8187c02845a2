use Rattle.std.proofs.Common.{arith, sym}
use Rattle.nd_picture_text.proofs.RasterSamples.{samples_more, one_more, all_more}
use Rattle.nd_picture_text.proofs.raster_samples.samples_in.Goals as goal

pub loop-missing-preserved : goal.loop-missing-preserved
loop-missing-preserved c =
    let kept = c.in_ok-keep-in-Ok.ensures.kept in
    record {
      read = rw kept (samples_more _ _ _ _ _ _ _ (omega arith) (sym c.in-Ok.ensures.value) c.loop-missing.invariant.read);
      count = rw kept (one_more _ _ _ _ (omega arith) c.loop-missing.invariant.count);
      within = rw kept (all_more _ _ _ c.in-Ok.ensures.within c.loop-missing.invariant.within);
    }
