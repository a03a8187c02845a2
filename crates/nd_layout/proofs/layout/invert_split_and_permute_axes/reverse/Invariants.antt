use Rattle.nd_layout.proofs.NamesFromOtherCrates.{pos}
use Rattle.nd_layout.proofs.ReversedListLoop.{IsTurnedTo}
use Rattle.nd_layout.proofs.layout.invert_split_and_permute_axes.reverse.Given as goal

abbrev pub invariant-loop-k : goal.invariant-loop-k
invariant-loop-k g l =
    IsTurnedTo 0 (g.D.Dimension.lengths l.fn.dim) (g.D.Dimension.lengths l.dim) l.k
    × IsTurnedTo (pos 0) (g.T.StrideList.strides_of l.fn.strides) (g.T.StrideList.strides_of l.strides) l.k
