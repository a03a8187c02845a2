use Rattle.nd_shape_and_slice.proofs.NamesFromOtherCrates.{◌≡◌, arith, ◌<◌, ◌≤◌, ◌*◌, get_or, length}
use Rattle.nd_shape_and_slice.proofs.NonzeroProducts.{keeps_product, grows_product, passes_limit, size_of_zero_if, grows_size_if}
use Rattle.nd_shape_and_slice.proofs.checked_size.size_of_shape_checked.Goals as goal
use Rattle.nd_shape_and_slice.proofs.checked_size.size_of_shape_checked.Goals.{then-length-eq0, else-length-eq0+in-Some, in_default-via-in-Some+else-larger-le-MAX_SIZE, in_default-via-in_default}

pub returns-in_default-clause-overflow : goal.returns-in_default-clause-overflow
returns-in_default-clause-overflow c =
    let at = c.loop-length.length-index in
    let inside : at < length c.args.lengths.now = omega arith in
    let above : 9223372036854775808 ≤ c.loop-length.product * get_or c.args.lengths.now at 0 =
    elim c.in_default.branch [ in_default-via-in-Some+else-larger-le-MAX_SIZE w ↦ omega (arith, w.in-Some.ensures) | in_default-via-in_default w ↦ omega (arith, w.in_default.ensures) ] in
    passes_limit c.args.lengths.now at c.loop-length.product 9223372036854775808 inside c.if-length-eq0.false c.loop-length.invariant.1 above

pub loop-length-preserved : goal.loop-length-preserved
loop-length-preserved c =
    let xs = c.args.lengths.now in
    let at = c.loop-length.length-index in
    let inside : at < length xs = omega arith in
    elim c.if-length-eq0.branch [
      | then-length-eq0 w ↦
          rw (w.product-is, w.has_zero-is) (c.loop-length.invariant.0, keeps_product xs at c.loop-length.product inside w.if-length-eq0.true c.loop-length.invariant.1, size_of_zero_if c.loop-length.has_zero xs at c.loop-length.product inside w.if-length-eq0.true c.loop-length.invariant.2)
      | else-length-eq0+in-Some w ↦
          let is : w.in-Some.larger ≡ c.loop-length.product * get_or xs at 0 = w.in-Some.ensures.1 in
          rw (w.product-is, w.has_zero-is, is) (omega (arith, is), grows_product xs at c.loop-length.product inside w.if-length-eq0.false c.loop-length.invariant.1, grows_size_if c.loop-length.has_zero xs at c.loop-length.product inside c.loop-length.invariant.2)
    ]
