use Rattle.nd_layout.proofs.NamesFromOtherCrates.{◌≡◌, ◌<◌, ℕ, slice_index}
use Rattle.nd_layout.proofs.order.halves_in_row_major_order.first_long.Given as goal

abbrev pub invariant-loop-axis : goal.invariant-loop-axis
invariant-loop-axis l = (k : ℕ) → k < l.axis → slice_index l.fn.lengths k ≡ 1
