use Rattle.nd_layout.proofs.NamesFromOtherCrates.{◌≡◌, ◌+◌, drop, span_of}
use Rattle.nd_layout.proofs.spans_and_overlaps.span.Given as goal

abbrev pub invariant-loop-axis : goal.invariant-loop-axis
invariant-loop-axis l = l.total + span_of (drop l.axis l.lengths) (drop l.axis l.strides) ≡ span_of l.lengths l.strides
