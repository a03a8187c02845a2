use Rattle.std.proofs.Common.{◌≡◌, ◌≤◌, length, map, take}
use Rattle.std.specs.Prelude.{vec_len, vec_capacity}
use Rattle.nd_array_core.specs.LayoutLaws.{with_axis_inserted}
use Rattle.nd_array_core.specs.growth.AppendEach.{meanings_of}
use Rattle.nd_stacking.proofs.stacked_arrays.with_axis.Given as goal

abbrev pub invariant-loop-nth : goal.invariant-loop-nth
invariant-loop-nth g l = record {
  views : meanings_of l.views.items ≡ map (with_axis_inserted l.axis.0) (take l.nth (meanings_of l.arrays));
  count : vec_len l.views ≡ l.nth;
  room : length l.arrays ≤ vec_capacity l.views;
}
