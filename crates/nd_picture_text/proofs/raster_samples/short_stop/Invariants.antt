use Rattle.std.proofs.Common.{◌≡◌, ◌<◌, length}
use Rattle.nd_picture_text.specs.ImageReading.{ImageStop, samples_in, raw_size}
use Rattle.std.specs.Prelude.{Err}
use Rattle.nd_picture_text.proofs.raster_samples.short_stop.Given as goal

-- where what is left stops, the whole stops
abbrev pub invariant-loop-missing : goal.invariant-loop-missing
invariant-loop-missing l = record {
  stops : (stop : ImageStop) → samples_in l.header l.missing l.rest ≡ Err stop → samples_in l.header l.fn.count l.fn.bytes ≡ Err stop;
  short : length l.rest < raw_size l.header.maxval l.missing;
}

abbrev pub decreases-loop-missing : goal.decreases-loop-missing
decreases-loop-missing l = l.missing
