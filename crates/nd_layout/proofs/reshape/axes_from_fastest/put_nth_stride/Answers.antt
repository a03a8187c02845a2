use Rattle.nd_layout.proofs.NamesFromOtherCrates.{w64, to_z-of_z}
use Rattle.nd_layout.proofs.reshape_lemmas.AxesFromFastest.{ordered-set}
use Rattle.nd_layout.proofs.reshape.axes_from_fastest.put_nth_stride.Goals as goal

pub returns : goal.returns
returns c =
    rw (to_z-of_z w64 c.args.stride c.ranges.stride, c.axis_at-axis.ensures.value) (ordered-set c.args.order c.args.out.now c.args.nth c.args.stride c.requires)
