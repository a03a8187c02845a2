use Rattle.std.proofs.Common.{◌≡◌, ◌+◌, ◌<◌, ◌^◌, count_by, nat_lt, length}
use Rattle.nd_array_core.specs.ConcatenationAndSplit.{row_major_elements}
use Rattle.nd_array_core.specs.ArrayMeaning.{meaning_of}
use Rattle.tests_nd_iter_stacking_linalg_and_numeric.proofs.counts_sums_and_maxima.count_above.Given as goal

abbrev pub invariant-loop-x : goal.invariant-loop-x
invariant-loop-x g l =
    (goal.iterator-loop-x g).can_next l.x-iterator
    × (goal.iterator-loop-x g).is_finite l.x-iterator
    × (l.count + length l.x-iterator < 2 ^ 63)
    × (l.count + count_by (λ x. nat_lt l.least x) l.x-iterator ≡ count_by (λ x. nat_lt l.least x) (row_major_elements (meaning_of l.array)))
