use Rattle.std.proofs.Common.{◌≡◌, ◌≤◌, ◌+◌, length}
use Rattle.std.specs.Prelude.{All}
use Rattle.nd_picture_text.specs.ImageReading.{samples_after, samples_in}
use Rattle.nd_picture_text.proofs.raster_samples.samples_in.Given as goal

-- what is left, read after the samples so far, is the whole
abbrev pub invariant-loop-missing : goal.invariant-loop-missing
invariant-loop-missing l = record {
  read : samples_after l.samples.items (samples_in l.header l.missing l.rest) ≡ samples_in l.header l.fn.count l.fn.bytes;
  count : length l.samples.items + l.missing ≡ l.fn.count;
  within : All (λ s. s ≤ l.header.maxval) l.samples.items;
}

abbrev pub decreases-loop-missing : goal.decreases-loop-missing
decreases-loop-missing l = l.missing
