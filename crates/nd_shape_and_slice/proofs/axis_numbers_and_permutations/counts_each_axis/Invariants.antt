use Rattle.nd_shape_and_slice.proofs.NamesFromOtherCrates.{◌≡◌, ℕ, ◌<◌, eqb, count_by}
use Rattle.nd_shape_and_slice.proofs.axis_numbers_and_permutations.counts_each_axis.Given as goal

abbrev pub invariant-loop-axis : goal.invariant-loop-axis
invariant-loop-axis l = (a : ℕ) → a < l.axis → count_by (λ b. eqb b a) l.axes ≡ 1
