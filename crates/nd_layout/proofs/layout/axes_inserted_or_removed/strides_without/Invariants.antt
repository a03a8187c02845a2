use Rattle.nd_layout.proofs.NamesFromOtherCrates.{pos, remove, IsFilledBelow}
use Rattle.nd_layout.proofs.layout.axes_inserted_or_removed.strides_without.Given as goal

abbrev pub invariant-loop-k : goal.invariant-loop-k
invariant-loop-k g l = IsFilledBelow (pos 0) (remove l.list l.axis) (g.E.Strides.StrideList.strides_of l.out) l.k
