use Rattle.std.proofs.Common.{◌≡◌}
use Rattle.std.specs.Prelude.{max}
use Rattle.std.specs.List.{fold}
use Rattle.nd_array_core.specs.ArrayMeaning.{meaning_of}
use Rattle.nd_iter.specs.IteratedElements.{along_axis}
use Rattle.uses_nd_iter_stacking_and_numeric.specs.WrappingListSums.{listed_sum}
use Rattle.uses_nd_iter_stacking_and_numeric.proofs.sums_and_maxima_by_iterators.greatest_outer_sum.Given as goal

abbrev pub invariant-loop-part : goal.invariant-loop-part
invariant-loop-part g l =
    (goal.iterator-loop-part g).can_next l.part-iterator
    × (goal.iterator-loop-part g).is_finite l.part-iterator
    × (fold (λ most part. max most (listed_sum part.1)) l.most l.part-iterator ≡ fold (λ most part. max most (listed_sum part.1)) 0 (along_axis (meaning_of l.array) 0))
