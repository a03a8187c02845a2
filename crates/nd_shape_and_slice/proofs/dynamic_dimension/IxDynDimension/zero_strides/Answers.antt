use Rattle.nd_shape_and_slice.proofs.NamesFromOtherCrates.{◌≡◌, ◌≤◌, length, take, pos, arith, take-replicate, length-take}
use Rattle.nd_shape_and_slice.proofs.dynamic_dimension.IxDynDimension.zero_strides.Goals as goal

pub returns : goal.returns
returns c =
    let few : c.args.self.now.count ≤ 32 = c.args.self.now.few in
    let count : length (take c.args.self.now.count c.args.self.now.lens) ≡ c.args.self.now.count = grind (arith, length-take) in
    rw count (take-replicate c.args.self.now.count 32 (pos 0) few)
