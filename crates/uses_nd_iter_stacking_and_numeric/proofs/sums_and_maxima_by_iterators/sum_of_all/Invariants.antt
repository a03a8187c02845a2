use Rattle.std.proofs.Common.{◌≡◌, ◌+◌, ◌%◌, ◌^◌}
use Rattle.std.specs.List.{fold}
use Rattle.nd_array_core.specs.ConcatenationAndSplit.{row_major_elements}
use Rattle.nd_array_core.specs.ArrayMeaning.{meaning_of}
use Rattle.uses_nd_iter_stacking_and_numeric.specs.WrappingListSums.{listed_sum}
use Rattle.uses_nd_iter_stacking_and_numeric.proofs.sums_and_maxima_by_iterators.sum_of_all.Given as goal

abbrev pub invariant-loop-x : goal.invariant-loop-x
invariant-loop-x g l =
    (goal.iterator-loop-x g).can_next l.x-iterator
    × (goal.iterator-loop-x g).is_finite l.x-iterator
    × (fold (λ sum x. (sum + x) % 2 ^ 64) l.sum l.x-iterator ≡ listed_sum (row_major_elements (meaning_of l.array)))
