use Rattle.std.proofs.Common.{◌≡◌, ◌+ℤ◌, ◌≤ℤ◌, ◌*◌, ◌^◌, length, pos}
use Rattle.std.specs.List.{fold}
use Rattle.nd_array_core.specs.ConcatenationAndSplit.{row_major_elements}
use Rattle.nd_array_core.specs.ArrayMeaning.{meaning_of}
use Rattle.nd_numeric.specs.ExactSums.{exact_sum_of}
use Rattle.nd_numeric.proofs.checked_sums.checked_sum.Given as goal

abbrev pub invariant-loop-x : goal.invariant-loop-x
invariant-loop-x g l =
    let whole = length (row_major_elements (meaning_of l.array)) in
    (goal.iterator-loop-x g).can_next l.x-iterator
    × (goal.iterator-loop-x g).is_finite l.x-iterator
    × ((l.sum +ℤ pos (2 ^ 64 * length l.x-iterator)) ≤ℤ pos (2 ^ 64 * whole))
    × (pos (2 ^ 64 * length l.x-iterator) ≤ℤ (l.sum +ℤ pos (2 ^ 64 * whole)))
    × (fold (λ sum x. sum +ℤ g.A.Whole.value x) l.sum l.x-iterator ≡ exact_sum_of g.A.Whole.value l.array)
