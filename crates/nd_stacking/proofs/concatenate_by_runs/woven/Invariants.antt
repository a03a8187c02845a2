use Rattle.std.specs.Prelude.{◌≡◌, ◌*◌, vec_len, vec_capacity}
use Rattle.nd_array_core.specs.growth.AppendEach.{lengths_along, meanings_of}
use Rattle.nd_stacking.specs.ConcatenationByRuns.{woven}
use Rattle.nd_stacking.proofs.concatenate_by_runs.woven.Given as goal

abbrev pub invariant-loop-row : goal.invariant-loop-row
invariant-loop-row g l = record {
  items : l.items.items ≡ woven l.axis l.after l.row (meanings_of l.arrays);
  len : vec_len l.items ≡ l.row * (lengths_along l.axis (meanings_of l.arrays) * l.after);
  room : vec_capacity l.items ≡ l.count;
}
