use Rattle.std.proofs.Common.{◌*◌, slice_index_or, sym, arith}
use Rattle.nd_npy_text.specs.HeaderDescription.{product_without_zeros}
use Rattle.nd_npy_text.proofs.NonzeroProducts.{product_on, product_some, product_passes, product_ends}
use Rattle.nd_npy_text.proofs.reader.fits_memory.Goals as goal

pub loop-length-preserved : goal.loop-length-preserved
loop-length-preserved c =
    let l = c.loop-length in
    let shape = c.args.shape.now in
    let larger = c.in-Some.ensures.1 in
    record {
      product = rw larger (product_on shape l.length-index l.product (c.args.size * product_without_zeros shape) c.loop-length-test.true l.invariant.product);
      some = rw larger (product_some l.product (slice_index_or shape l.length-index 0) l.invariant.some);
      below = rw larger c.in-Some.ensures.0;
    }

pub returns-in-None : goal.returns-in-None
returns-in-None c =
    let l = c.loop-length in
    let shape = c.args.shape.now in
    sym (product_passes shape l.length-index l.product (c.args.size * product_without_zeros shape) c.loop-length-test.true l.invariant.product (omega (arith, c.in-None.ensures)))

pub returns : goal.returns
returns c =
    let l = c.loop-length in
    let shape = c.args.shape.now in
    sym (product_ends shape l.length-index l.product (c.args.size * product_without_zeros shape) c.loop-length-test.false l.invariant.product l.invariant.below)
