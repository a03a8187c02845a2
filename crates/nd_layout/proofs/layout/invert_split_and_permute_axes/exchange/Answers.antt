use Rattle.nd_layout.proofs.NamesFromOtherCrates.{arith, pos, w64, to_z-of_z, swap_is}
use Rattle.nd_layout.proofs.layout.invert_split_and_permute_axes.exchange.Goals as goal

pub returns-clause-lengths : goal.returns-clause-lengths
returns-clause-lengths g c =
    let lengths = g.D.Dimension.lengths c.args.dim.now in
    rw (c.set_length-2.ensures, c.set_length.ensures, c.length-len.ensures, c.length-other_len.ensures) (swap_is lengths c.args.a c.args.b 0 c.requires.a c.requires.b)

pub returns-clause-strides : goal.returns-clause-strides
returns-clause-strides g c =
    let strides = g.T.StrideList.strides_of c.args.strides.now in
    rw (c.set-2.ensures, c.set.ensures, to_z-of_z w64 c.stride-stride.result (record { sfits = c.stride-stride.type_inv }), to_z-of_z w64 c.stride-other_stride.result (record { sfits = c.stride-other_stride.type_inv }), c.stride-stride.ensures, c.stride-other_stride.ensures)
    (swap_is strides c.args.a c.args.b (pos 0) (omega (arith, c.requires.a, c.requires.as_many)) (omega (arith, c.requires.b, c.requires.as_many)))
