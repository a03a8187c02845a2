use Rattle.nd_array_core.specs.growth.AppendEach.{meanings_of}
use Rattle.nd_array_core.specs.reshape.ElementsAsSlice.{IsStandardArray}
use Rattle.nd_stacking.specs.ConcatenationByRuns.{IsByRank}
use Rattle.nd_stacking.proofs.IndexNumberByAxisParts.{AllBelow}
use Rattle.nd_stacking.proofs.concatenate_by_runs.are_standard.Given as goal

abbrev pub invariant-loop-nth : goal.invariant-loop-nth
invariant-loop-nth g l = record {
  standard : AllBelow (λ a. IsStandardArray a) l.arrays l.nth;
  ranks : AllBelow IsByRank (meanings_of l.arrays) l.nth;
}
