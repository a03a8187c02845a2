use Rattle.nd_layout.proofs.NamesFromOtherCrates.{ℕ, ◌<◌, ◌*◌, get_or, span_within, magnitude_at}
use Rattle.nd_layout.proofs.spans_and_overlaps.separated.Given as goal

abbrev pub invariant-loop-axis : goal.invariant-loop-axis
invariant-loop-axis l = (k : ℕ) → k < l.axis → 1 < get_or l.lengths k 0 → span_within (magnitude_at l.strides k) l.lengths l.strides < get_or l.lengths k 0 * magnitude_at l.strides k
