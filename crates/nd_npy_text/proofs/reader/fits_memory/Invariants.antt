use Rattle.std.proofs.Common.{◌≡◌, ◌*◌, ◌<◌, ◌^◌, drop}
use Rattle.nd_npy_text.specs.HeaderDescription.{product_without_zeros}
use Rattle.nd_npy_text.proofs.reader.fits_memory.Given as goal

-- the product so far times that of the lengths left is the whole product
abbrev pub invariant-loop-length : goal.invariant-loop-length
invariant-loop-length l = record {
  product : l.product * product_without_zeros (drop l.length-index l.shape) ≡ l.size * product_without_zeros l.shape;
  some : 0 < l.product;
  below : l.product < 2 ^ 63;
}
