use Rattle.std.proofs.Common.{◌≡◌, ◌++◌, map}
use Rattle.nd_array_core.specs.ArrayMeaning.{meaning_of}
use Rattle.nd_iter.specs.IteratedElements.{along_axis}
use Rattle.uses_nd_iter_stacking_and_numeric.specs.WrappingListSums.{listed_sum}
use Rattle.uses_nd_iter_stacking_and_numeric.proofs.sums_and_maxima_by_iterators.outer_sums.Given as goal

abbrev pub invariant-loop-part : goal.invariant-loop-part
invariant-loop-part g l =
    (goal.iterator-loop-part g).can_next l.part-iterator
    × (goal.iterator-loop-part g).is_finite l.part-iterator
    × (l.sums.items ++ map (λ part. listed_sum part.1) l.part-iterator ≡ map (λ part. listed_sum part.1) (along_axis (meaning_of l.array) 0))
