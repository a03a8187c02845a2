use Rattle.std.proofs.Common.{◌≤◌, ◌-◌, length, take}
use Rattle.std.specs.List.{flat_map}
use Rattle.nd_text.specs.BufferedPrinting.{Puts}
use Rattle.nd_picture_text.specs.ImageWriting.{both_bytes}
use Rattle.nd_picture_text.proofs.writer.put_wide.Given as goal

-- the samples so far are put
abbrev pub invariant-loop-done : goal.invariant-loop-done
invariant-loop-done g l = record {
  put : Puts g.W.Write.contents l.fn.output l.fn.page l.output l.page (flat_map both_bytes (take l.done l.samples));
  within : l.done ≤ length l.samples;
}

abbrev pub decreases-loop-done : goal.decreases-loop-done
decreases-loop-done g l = length l.samples - l.done
