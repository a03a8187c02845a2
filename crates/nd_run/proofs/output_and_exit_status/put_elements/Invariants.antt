use Rattle.nd_array_core.specs.ArrayMeaning.{meaning_of}
use Rattle.nd_run.proofs.ElementsWrittenInOrder.{IsWrittenBelow}
use Rattle.nd_run.proofs.output_and_exit_status.put_elements.Given as goal

abbrev pub invariant-loop-rank : goal.invariant-loop-rank
invariant-loop-rank g l = IsWrittenBelow g.W.Write.contents (meaning_of l.array) l.fn.output l.fn.page l.output l.page l.index l.rank
