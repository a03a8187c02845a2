use Rattle.std.proofs.Common.{◌≡◌, ◌++◌, ◌*◌, ◌+◌, length, vec_len}
use Rattle.std.specs.Prelude.{vec_capacity}
use Rattle.nd_npy.specs.ItemBytes.{values_in}
use Rattle.nd_npy.proofs.item_values.push_values.Given as goal

-- the values so far, and those of the bytes that are left, are all values
abbrev pub invariant-loop-left : goal.invariant-loop-left
invariant-loop-left g l = record {
  values : l.values.items ++ values_in (g.A.NpyItem.value_of l.order) l.size l.left l.rest ≡ l.fn.values.items ++ values_in (g.A.NpyItem.value_of l.order) l.size l.count l.fn.bytes;
  bytes : length l.rest ≡ l.left * l.size;
  len : vec_len l.values + l.left ≡ vec_len l.fn.values + l.count;
  room : vec_capacity l.values ≡ vec_capacity l.fn.values;
}

abbrev pub decreases-loop-left : goal.decreases-loop-left
decreases-loop-left g l = l.left
