use Rattle.nd_layout.proofs.NamesFromOtherCrates.{◌≡◌, ◌*◌, drop, size_of}
use Rattle.nd_layout.proofs.reshape.standard_layouts_and_runs.count_of.Given as goal

abbrev pub invariant-loop-length : goal.invariant-loop-length
invariant-loop-length l = l.count * size_of (drop l.length-index l.lengths) ≡ size_of l.lengths
