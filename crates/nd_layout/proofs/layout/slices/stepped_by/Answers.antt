use Rattle.nd_layout.proofs.NamesFromOtherCrates.{◌≡◌, ◌<◌, ◌^◌, ℕ, arith, ℤ, pos, negsuc, nat_abs, cond, leb, ◌*ℤ◌, w64, FitsSigned, nat_tests, to_z-of_z}
use Rattle.nd_layout.proofs.layout.slices.stepped_by.Goals as goal

fits : (z : ℤ) → nat_abs z < 2 ^ 63 → FitsSigned w64 z
fits (pos n) h = record { sfits = h }
fits (negsuc n) h = record { sfits = omega (arith, h) }

long : (len : ℕ) (z : ℤ) → 1 < len → z ≡ cond (leb len 1) (pos 0) z
long len z more = grind (arith, nat_tests)

pub overflow_mul-result : goal.overflow_mul-result
overflow_mul-result c =
    rw (to_z-of_z w64 c.args.stride c.ranges.stride, to_z-of_z w64 c.args.step c.ranges.step) (fits (c.args.stride *ℤ c.args.step) (c.requires c.if-len-le1.false))

pub returns-else-len-le1 : goal.returns-else-len-le1
returns-else-len-le1 c =
    let small = fits (c.args.stride *ℤ c.args.step) (c.requires c.if-len-le1.false) in
    rw (to_z-of_z w64 c.args.stride c.ranges.stride, to_z-of_z w64 c.args.step c.ranges.step, to_z-of_z w64 (c.args.stride *ℤ c.args.step) small) (long c.args.len (c.args.stride *ℤ c.args.step) c.if-len-le1.false)
