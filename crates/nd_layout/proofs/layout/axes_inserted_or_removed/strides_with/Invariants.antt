use Rattle.nd_layout.proofs.NamesFromOtherCrates.{pos, insert, IsFilledBelow}
use Rattle.nd_layout.proofs.layout.axes_inserted_or_removed.strides_with.Given as goal

abbrev pub invariant-loop-k : goal.invariant-loop-k
invariant-loop-k g l = IsFilledBelow (pos 0) (insert l.list l.axis (pos 1)) (g.E.Strides.StrideList.strides_of l.out) l.k
