use Rattle.std.specs.Prelude.{◌≡◌, ◌+◌, ◌++◌, take, vec_len, vec_capacity}
use Rattle.nd_stacking.proofs.concatenate_by_runs.with_clones.Given as goal

abbrev pub invariant-loop-nth : goal.invariant-loop-nth
invariant-loop-nth g l = record {
  items : l.longer.items ≡ l.fn.items.items ++ take l.nth l.run;
  len : vec_len l.longer ≡ vec_len l.fn.items + l.nth;
  room : vec_capacity l.longer ≡ vec_capacity l.fn.items;
}
