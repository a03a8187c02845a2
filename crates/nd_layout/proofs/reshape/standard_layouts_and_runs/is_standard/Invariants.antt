use Rattle.nd_layout.proofs.NamesFromOtherCrates.{◌≡◌, ◌*◌, ◌↔◌, drop, size_of, RowMajor}
use Rattle.nd_layout.specs.RanksAndReshapeStrides.{fastest_first, StepsBy}
use Rattle.nd_layout.proofs.reshape.standard_layouts_and_runs.is_standard.Given as goal

abbrev pub invariant-loop-nth : goal.invariant-loop-nth
invariant-loop-nth l = record {
  size : l.expected * size_of (drop l.nth (fastest_first RowMajor l.lengths)) ≡ size_of (fastest_first RowMajor l.lengths);
  steps : StepsBy 1 (fastest_first RowMajor l.lengths) (fastest_first RowMajor l.strides) ↔ StepsBy l.expected (drop l.nth (fastest_first RowMajor l.lengths)) (drop l.nth (fastest_first RowMajor l.strides));
}
