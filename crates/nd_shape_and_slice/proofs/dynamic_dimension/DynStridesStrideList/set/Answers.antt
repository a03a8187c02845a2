use Rattle.nd_shape_and_slice.proofs.NamesFromOtherCrates.{◌<◌, arith, w64, take-set-lt, to_z-of_z}
use Rattle.nd_shape_and_slice.proofs.dynamic_dimension.DynStridesStrideList.set.Goals as goal

pub returns-then-axis-self : goal.returns-then-axis-self
returns-then-axis-self c =
    let within : c.args.axis < c.args.self.now.count = omega arith in
    rw (to_z-of_z w64 c.args.stride c.ranges.stride) (take-set-lt _ _ _ _ within)
