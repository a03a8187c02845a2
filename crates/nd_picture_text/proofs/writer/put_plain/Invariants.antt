use Rattle.std.proofs.Common.{take}
use Rattle.std.specs.List.{flat_map}
use Rattle.nd_text.specs.BufferedPrinting.{Puts}
use Rattle.nd_picture_text.specs.ImageWriting.{number_line}
use Rattle.nd_picture_text.proofs.writer.put_plain.Given as goal

-- the samples so far are put
abbrev pub invariant-loop-sample : goal.invariant-loop-sample
invariant-loop-sample g l = Puts g.W.Write.contents l.fn.output l.fn.page l.output l.page (flat_map number_line (take l.sample-index l.samples))
