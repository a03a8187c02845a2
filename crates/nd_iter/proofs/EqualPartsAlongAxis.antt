-- Parts of one size along an axis, a step apart: how many there are, and that each fits.
use Rattle.std.proofs.Common.{◌≡◌, ℕ, zero, suc, ◌+◌, ◌-◌, ◌*◌, ◌/◌, ◌%◌, ◌<◌, ◌≤◌, Bool, true, false, refl, arith}
use Rattle.std.specs.Prelude.{nat_lt}
use Rattle.std.proofs.Math.Nat.{div-lt_iff_lt-mul, div-mul-le_self, mul-le-mul_right}
use Rattle.std.proofs.lemmas.Nat.{mod_below}
use Rattle.std.proofs.lemmas.Bool.Decides.{nat_tests}
use Rattle.nd_iter.specs.WindowsAndBlocks.{parts_along}

-- the part of a number fits
pub part_fits : (n size step q : ℕ) → 0 < step → q < parts_along n size step → q * step + size ≤ n
part_fits n size step q some below = by_test (nat_lt n size) refl
  where
    by_test : (b : Bool) → nat_lt n size ≡ b → q * step + size ≤ n
    by_test true e =
        let none : parts_along n size step ≡ 0 = rw e refl in
        absurd (omega (arith, below, none))
    by_test false e =
        let count : parts_along n size step ≡ (n - size) / step + 1 = rw e refl in
        let least : size ≤ n = grind (arith, nat_tests, e) in
        let upto : q ≤ (n - size) / step = omega (arith, below, count) in
        let more = mul-le-mul_right {m = q} {n = (n - size) / step} step upto in
        let within = div-mul-le_self (n - size) step in
        omega (arith, more, within, least)

module _ (rows columns height width down right across : ℕ) (far : 0 < down) (wide : 0 < right) (is : across ≡ parts_along columns width right) where
  -- where there is a part, one stands next to another
  pub some_across : (from to : ℕ) → to ≡ parts_along rows height down * across → from < to → 0 < across
  some_across from to all below = by_case across all
    where
      by_case : (a : ℕ) → to ≡ parts_along rows height down * a → 0 < a
      by_case zero e = absurd (omega (arith, e, below))
      by_case (suc a) e = omega arith

  -- each number names one that fits
  pub rows_fit : (to : ℕ) → to ≡ parts_along rows height down * across → (k : ℕ) → k < to → k / across * down + height ≤ rows
  rows_fit to all k below =
      let some = some_across k to all below in
      part_fits rows height down (k / across) far ((div-lt_iff_lt-mul some).1 (omega (arith, below, all)))

  pub columns_fit : (to : ℕ) → to ≡ parts_along rows height down * across → (k : ℕ) → k < to → k % across * right + width ≤ columns
  columns_fit to all k below =
      let some = some_across k to all below in
      let low = mod_below k across some in
      part_fits columns width right (k % across) wide (omega (arith, low, is))
