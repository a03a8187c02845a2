-- Shapes that have a checked size, for callers that make arrays of them.
use Rattle.nd_array_core.proofs.NamesFromOtherCrates.{ℕ, zero, suc, ◌<◌, ◌^◌, [], ◌∷◌, arith, nonzero_product}

-- a list as long as an axis may be
pub list_checked : (n : ℕ) → n < 2 ^ 63 → nonzero_product (n ∷ []) < 2 ^ 63
list_checked zero low = omega arith
list_checked (suc n) low = omega (arith, low)
