use Rattle.nd_shape_and_slice.proofs.EntryLoops.{IsPutAmong}
use Rattle.nd_shape_and_slice.proofs.short_array_access.set_entry.Given as goal

abbrev pub invariant-loop-k : goal.invariant-loop-k
invariant-loop-k g l = IsPutAmong l.initial.list l.list l.at l.value l.k
