use Rattle.nd_layout.proofs.NamesFromOtherCrates.{◌≡◌, ◌+◌, drop, set, span_within}
use Rattle.nd_layout.proofs.spans_and_overlaps.reach_of_others.Given as goal

abbrev pub invariant-loop-other : goal.invariant-loop-other
invariant-loop-other l =
    l.total + span_within l.magnitude (drop l.other (set l.lengths l.axis 1)) (drop l.other l.strides)
    ≡ span_within l.magnitude (set l.lengths l.axis 1) l.strides
