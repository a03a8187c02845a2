use Rattle.nd_layout.proofs.NamesFromOtherCrates.{◌≡◌, ◌<◌, ℕ, length, get_or}
use Rattle.nd_layout.proofs.layout.place_at.is_in_box.Given as goal

abbrev pub invariant-loop-axis : goal.invariant-loop-axis
invariant-loop-axis l = (length l.lengths ≡ length l.index) × ((k : ℕ) → k < l.axis → get_or l.index k 0 < get_or l.lengths k 0)
