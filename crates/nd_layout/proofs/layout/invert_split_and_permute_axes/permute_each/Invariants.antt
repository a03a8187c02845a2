use Rattle.nd_layout.proofs.NamesFromOtherCrates.{pos, IsPermutedBelow}
use Rattle.nd_layout.proofs.layout.invert_split_and_permute_axes.permute_each.Given as goal

abbrev pub invariant-loop-k : goal.invariant-loop-k
invariant-loop-k g l =
    IsPermutedBelow 0 l.axes (g.D.Dimension.lengths l.old_dim) (g.D.Dimension.lengths l.dim) l.k
    × IsPermutedBelow (pos 0) l.axes (g.T.StrideList.strides_of l.old_strides) (g.T.StrideList.strides_of l.strides) l.k
