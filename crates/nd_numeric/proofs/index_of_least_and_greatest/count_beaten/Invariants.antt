use Rattle.std.proofs.Common.{◌≡◌, ◌+◌, ◌<◌, ◌^◌, length}
use Rattle.nd_array_core.specs.ConcatenationAndSplit.{row_major_elements}
use Rattle.nd_array_core.specs.ArrayMeaning.{meaning_of}
use Rattle.nd_numeric.specs.IndexOfLeastAndGreatest.{beaten_before, beats_by}
use Rattle.nd_numeric.proofs.index_of_least_and_greatest.count_beaten.Given as goal

abbrev pub invariant-loop-x : goal.invariant-loop-x
invariant-loop-x g l =
    let beats = beats_by g.A.Ordered.order l.greatest in
    (goal.iterator-loop-x g).can_next l.x-iterator
    × (goal.iterator-loop-x g).is_finite l.x-iterator
    × (l.count + length l.x-iterator < 2 ^ 63)
    × (l.count + beaten_before beats l.best l.x-iterator ≡ beaten_before beats l.best (row_major_elements (meaning_of l.array)))
