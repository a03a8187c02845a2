use Rattle.nd_layout.proofs.NamesFromOtherCrates.{◌≡◌, drop, least_of, diagonal_length}
use Rattle.nd_layout.proofs.layout.diagonal.len_of_diagonal.Given as goal

abbrev pub invariant-loop-k : goal.invariant-loop-k
invariant-loop-k l = least_of l.least (drop l.k l.lengths) ≡ diagonal_length l.lengths
