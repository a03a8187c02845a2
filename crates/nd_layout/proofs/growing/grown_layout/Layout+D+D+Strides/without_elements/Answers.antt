use Rattle.nd_layout.proofs.order_lemmas.FullStorageAfterAppend.{zeros_valid}
use Rattle.nd_layout.proofs.growing.grown_layout.Layout+D+D+Strides.without_elements.Goals as goal

pub strided-requires : goal.strided-requires
strided-requires g c = record { valid = rw c.zero_strides.ensures (zeros_valid c.args.offset (g.D.Dimension.lengths c.args.dim) c.requires.none c.requires.checked) }
