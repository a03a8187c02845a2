use Rattle.nd_shape_and_slice.proofs.EntryLoops.{IsFoundAmong}
use Rattle.nd_shape_and_slice.proofs.short_array_access.entry_at.Given as goal

abbrev pub invariant-loop-k : goal.invariant-loop-k
invariant-loop-k g l = IsFoundAmong l.list l.at l.entry l.k
