use Rattle.nd_layout.proofs.NamesFromOtherCrates.{◌≡◌, ◌<◌, ◌≤◌, ◌-◌, ℕ, length, slice_index}
use Rattle.nd_layout.proofs.order.run_as_axis.stretch_last.Given as goal

abbrev pub invariant-loop-axis : goal.invariant-loop-axis
invariant-loop-axis g l =
    (length (g.D.Dimension.lengths l.dim) ≡ length (g.D.Dimension.lengths l.fn.dim))
    × (l.axis ≤ length (g.D.Dimension.lengths l.fn.dim) - 1)
    × ((k : ℕ) → k < l.axis → slice_index (g.D.Dimension.lengths l.dim) k ≡ 1)
    × (length (g.T.StrideList.strides_of l.strides) ≡ length (g.T.StrideList.strides_of l.fn.strides))
