use Rattle.std.specs.Prelude.{◌≡◌, ◌+◌, ◌*◌, ◌++◌, take, vec_len, vec_capacity}
use Rattle.nd_array_core.specs.growth.AppendEach.{lengths_along, meanings_of}
use Rattle.nd_stacking.specs.ConcatenationByRuns.{joined_row}
use Rattle.nd_stacking.proofs.concatenate_by_runs.with_row.Given as goal

abbrev pub invariant-loop-nth : goal.invariant-loop-nth
invariant-loop-nth g l = record {
  items : l.longer.items ≡ l.fn.items.items ++ joined_row l.axis l.after l.row (take l.nth (meanings_of l.arrays));
  len : vec_len l.longer ≡ vec_len l.fn.items + lengths_along l.axis (take l.nth (meanings_of l.arrays)) * l.after;
  room : vec_capacity l.longer ≡ vec_capacity l.fn.items;
}
