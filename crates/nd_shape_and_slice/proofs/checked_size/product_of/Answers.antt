use Rattle.nd_shape_and_slice.proofs.NamesFromOtherCrates.{arith, ◌<◌, length}
use Rattle.nd_shape_and_slice.proofs.NonzeroProducts.{product_fits, product_more, grows_size_from}
use Rattle.nd_shape_and_slice.proofs.checked_size.product_of.Goals as goal

pub overflow_mul-product : goal.overflow_mul-product
overflow_mul-product c =
    let within : c.loop-length.length-index < length c.args.lengths.now = omega arith in
    let fits = product_fits c.args.lengths.now c.loop-length.length-index c.loop-length.product within c.loop-length.invariant.1 in
    omega (arith, fits, c.requires)

pub loop-length-preserved : goal.loop-length-preserved
loop-length-preserved c =
    let within : c.loop-length.length-index < length c.args.lengths.now = omega arith in
    (grows_size_from c.args.lengths.now c.loop-length.length-index c.loop-length.product within c.loop-length.invariant.0, product_more c.args.lengths.now c.loop-length.length-index c.loop-length.product within c.loop-length.invariant.1)
