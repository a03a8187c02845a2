use Rattle.nd_layout.proofs.NamesFromOtherCrates.{arith}
use Rattle.nd_layout.proofs.growing_lemmas.GrowingStrides.{grown_small}
use Rattle.nd_layout.proofs.growing.grown_layout.longer.Goals as goal

pub overflow_add-length : goal.overflow_add-length
overflow_add-length g c =
    let small = grown_small (g.D.Dimension.lengths c.args.dim) c.args.axis c.args.added c.requires.on c.requires.checked in
    omega (arith, small, c.length.ensures)
