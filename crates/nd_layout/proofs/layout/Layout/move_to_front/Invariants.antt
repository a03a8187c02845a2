use Rattle.nd_layout.proofs.NamesFromOtherCrates.{◌≡◌, ◌≤◌, pos, slice_index, slice_index_or, remove, insert}
use Rattle.nd_layout.proofs.layout.Layout.move_to_front.Given as goal

abbrev pub invariant-loop-at : goal.invariant-loop-at
invariant-loop-at g l =
    (g.D.Dimension.lengths l.self.dim ≡ insert (remove (g.D.Dimension.lengths l.fn.self.dim) l.fn.axis) l.at (slice_index (g.D.Dimension.lengths l.fn.self.dim) l.fn.axis))
    × (g.T.StrideList.strides_of l.self.strides ≡ insert (remove (g.T.StrideList.strides_of l.fn.self.strides) l.fn.axis) l.at (slice_index_or (g.T.StrideList.strides_of l.fn.self.strides) l.fn.axis (pos 0)))
    × (l.self.offset ≡ l.fn.self.offset)
    × (l.at ≤ l.fn.axis)

abbrev pub decreases-loop-at : goal.decreases-loop-at
decreases-loop-at g l = l.at
